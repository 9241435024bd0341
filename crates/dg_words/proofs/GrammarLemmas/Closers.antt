-- The bytes that end what is open in a state of reading.
use Rattle.std.specs.Prelude.{ℕ, zero, suc, List, [], ◌∷◌, cond}
use Rattle.dg_lists.specs.declared.kinds.Mode.{Mode}
use Rattle.dg_lists.specs.declared.kinds.Mode.TheVariants as mode
use Rattle.dg_words.specs.declared.kinds.Opener.{Opener}
use Rattle.dg_lists.specs.declared.kinds.Context.{Context}
use Rattle.dg_lists.specs.declared.kinds.Context.TheVariants as context
use Rattle.dg_words.specs.Machine.{State, context_of}
use Rattle.dg_words.specs.Grammar.Ends.{is_end}
use Rattle.dg_words.proofs.GrammarLemmas.Openings.{context_in}

-- outside of brackets, in these indices
abbrev pub top_ends : Context → List Context → List ℕ
top_ends context.Quoted is = 34 ∷ []
top_ends context.Index [] = 41 ∷ []
top_ends context.Index (s ∷ is) = 41 ∷ top_ends s is
top_ends s is = []

-- of parts inside of a bracket or an index, and then these
abbrev pub inner_ends : Context → List ℕ → List ℕ
inner_ends context.Bare ks = 93 ∷ ks
inner_ends context.Quoted ks = 34 ∷ 93 ∷ ks
inner_ends context.Index ks = 41 ∷ ks
inner_ends context.Alone ks = 93 ∷ ks

abbrev pub part_ends : Context → List Opener → List Context → List ℕ
part_ends s [] is = top_ends s is
part_ends s (o ∷ os) is = inner_ends s (part_ends (context_of o) os is)

abbrev pub deep_ends : ℕ → List ℕ → List ℕ
deep_ends zero ks = ks
deep_ends (suc n) ks = 125 ∷ deep_ends n ks

abbrev pub brace_ends : Mode → ℕ → List ℕ → List ℕ
brace_ends (mode.NameBrace s) n ks = 125 ∷ ks
brace_ends mode.BraceFirst n ks = 125 ∷ ks
brace_ends mode.BraceStar n ks = 125 ∷ ks
brace_ends mode.Braced n ks = 125 ∷ deep_ends n ks
brace_ends mode.BracedPair n ks = 125 ∷ deep_ends n ks
brace_ends mode.BracedJoin n ks = 125 ∷ deep_ends n ks
brace_ends m n ks = ks

abbrev pub ends_of : List Opener → Mode → ℕ → List Context → List ℕ
ends_of os m n is = brace_ends m n (part_ends (context_in m) os is)

abbrev pub ends_at : State → List ℕ
ends_at s = ends_of s.inner s.mode s.depth s.draft.indices

-- this byte before these, if it is an end
abbrev pub with_end : ℕ → List ℕ → List ℕ
with_end b ks = cond (is_end b) (b ∷ ks) ks
