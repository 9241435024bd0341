-- The messages of texts that can't be read.
use Rattle.std.specs.Prelude.{ℕ, List, codes}
use Rattle.dg_lists.specs.declared.fault.WordFault.{WordFault}
use Rattle.dg_lists.specs.declared.fault.WordFault.TheVariants.{MissingBrace, MissingBracket, MissingQuote, AfterBrace, AfterQuote, ListBrace, ListQuote, ListAfter, Memory, MissingParen, BadCodePoint}

-- why a text can't be read
abbrev pub fault_text : WordFault → List ℕ
fault_text MissingBrace = codes "missing close-brace"
fault_text MissingBracket = codes "missing close-bracket"
fault_text MissingQuote = codes "missing \""
fault_text AfterBrace = codes "extra characters after close-brace"
fault_text AfterQuote = codes "extra characters after close-quote"
fault_text ListBrace = codes "unmatched open brace in list"
fault_text ListQuote = codes "unmatched open quote in list"
fault_text ListAfter = codes "list element followed by more text"
fault_text Memory = codes "out of memory"
fault_text MissingParen = codes "missing )"
fault_text BadCodePoint = codes "bad code point"
