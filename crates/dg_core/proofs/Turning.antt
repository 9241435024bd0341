-- Questions that are asked in turn, and tests that are judged one after another.
use Rattle.std.proofs.Common.{◌≡◌, List, [], ◌∷◌, ◌++◌, refl, subst}
use Rattle.std.specs.Prelude.{Option, Some, None}
use Rattle.dg_world.specs.World.{WorldView}
use Rattle.dg_world.specs.declared.question.Answer.{Answer}
use Rattle.dg_world.specs.declared.question.Question.{Question}
use Rattle.dg_world.specs.declared.question.Read.{Read}
use Rattle.dg_world.specs.declared.test_id.TestId.{TestId}
use Rattle.dg_index.specs.Kept.{KeptView, IsAskedOf, after_asking}
use Rattle.dg_core.specs.Turning.{AsksInTurn, JudgesOne, JudgesAll}

-- a question leaves the records
pub shelf-asked : (k : KeptView) (q : Question) (o : Option Answer) (w : WorldView) → (after_asking k q o w).shelf ≡ k.shelf
shelf-asked k q None w = refl
shelf-asked k q (Some a) w = refl

-- one question more
pub asks-more : (old mid new : KeptView) (rs : List Read) (r : Read) → AsksInTurn old rs mid → IsAskedOf mid new r.question r.answer → AsksInTurn old (rs ++ r ∷ []) new
asks-more old mid new [] r h a = (new, subst (λ k. IsAskedOf k new r.question r.answer) h a, refl)
asks-more old mid new (x ∷ xs) r h a = (h.0, h.1, asks-more h.0 mid new xs r h.2 a)

-- what follows what was asked
pub asks-append : (old mid new : KeptView) (rs more : List Read) → AsksInTurn old rs mid → AsksInTurn mid more new → AsksInTurn old (rs ++ more) new
asks-append old mid new [] more h a = subst (λ k. AsksInTurn k more new) h a
asks-append old mid new (x ∷ xs) more h a = (h.0, h.1, asks-append h.0 mid new xs more h.2 a)

-- one test more
pub judges-more : (old mid new : KeptView) (ts : List TestId) (t : TestId) → JudgesAll old ts mid → JudgesOne mid t new → JudgesAll old (ts ++ t ∷ []) new
judges-more old mid new [] t h j = (new, subst (λ k. JudgesOne k t new) h j, refl)
judges-more old mid new (x ∷ xs) t h j = (h.0, h.1, judges-more h.0 mid new xs t h.2 j)
