use Rattle.std.proofs.Common.{◌≡◌, ◌++◌, drop, filter, map}
use Rattle.dg_cmds.specs.Lists.{is_some_text, without_blanks}
use Rattle.dg_cmds.proofs.lists.bare_words.Given as goal

abbrev pub invariant-loop-word : goal.invariant-loop-word
invariant-loop-word l = l.words.items ++ filter is_some_text (map without_blanks (drop l.word-index l.args)) ≡ filter is_some_text (map without_blanks l.args)
