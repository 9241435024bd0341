use Rattle.std.proofs.Common.{◌≡◌, ◌++◌, IsTrue}
use Rattle.dg_language.specs.Row.{are_new}
use Rattle.dg_language.specs.Reads.{reads_of}
use Rattle.dg_language.proofs.reads.hashed.Given as goal

abbrev pub invariant-loop-question : goal.invariant-loop-question
invariant-loop-question l = record {
  whole : reads_of l.answers.entries ++ l.question-iterator.rest.items ≡ l.fn.reads.items;
  new : IsTrue (are_new (reads_of l.answers.entries) l.question-iterator.rest.items);
}
