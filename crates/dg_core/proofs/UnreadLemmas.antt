-- What a change of the world leaves held.
use Rattle.std.proofs.Common.{◌≡◌, ◌&&◌, cond, List, [], ◌∷◌, refl, ap, ◌∙◌}
use Rattle.std.specs.Prelude.{Option, Some, None, All, IfSome, not}
use Rattle.std.specs.List.{filter}
use Rattle.std.proofs.lemmas.List.Elements.{All-head, All-tail}
use Rattle.dg_world.specs.World.{WorldView, look, selected}
use Rattle.dg_world.specs.declared.question.Read.{Read}
use Rattle.dg_world.specs.declared.test_id.TestId.{TestId}
use Rattle.dg_records.specs.Truth.{RecordView, is_given}
use Rattle.dg_records.specs.Shelf.{kept}
use Rattle.dg_index.specs.Kept.{holds_if_kept, is_held}
use Rattle.dg_core.specs.Core.{CoreView, pending}
use Rattle.dg_core.specs.Unread.{IsUnread, IsUnreadBy}
use Rattle.dg_records.proofs.HoldsLemmas.{all_given}

-- reads whose answers stayed agree as they did
agree-unread : (old new : WorldView) (rs : List Read) → All (λ read. look new read.question ≡ look old read.question) rs → all_given new rs ≡ all_given old rs
agree-unread old new [] h = refl
agree-unread old new (r ∷ rs) h =
    let first = All-head (λ read. look new read.question ≡ look old read.question) r rs h in
    let rest = agree-unread old new rs (All-tail (λ read. look new read.question ≡ look old read.question) r rs h) in
    ap (λ a. is_given a r.answer && all_given new rs) first ∙ ap (λ b. is_given (look old r.question) r.answer && b) rest

-- and so does a kept record
held-unread : (old new : WorldView) (o : Option RecordView) → IfSome o (IsUnreadBy old new) → holds_if_kept new o ≡ holds_if_kept old o
held-unread old new None h = refl
held-unread old new (Some r) h = agree-unread old new r.reads h

-- the tests that are not held are the same
unheld-unread : (old new : WorldView) (s : List RecordView) (ts : List TestId) → All (λ t. IfSome (kept s t) (IsUnreadBy old new)) ts
    → filter (λ t. not (is_held new s t)) ts ≡ filter (λ t. not (is_held old s t)) ts
unheld-unread old new s [] h = refl
unheld-unread old new s (t ∷ ts) h =
    let first = held-unread old new (kept s t) (All-head (λ t. IfSome (kept s t) (IsUnreadBy old new)) t ts h) in
    let rest = unheld-unread old new s ts (All-tail (λ t. IfSome (kept s t) (IsUnreadBy old new)) t ts h) in
    ap (λ b. cond (not b) (t ∷ filter (λ u. not (is_held new s u)) ts) (filter (λ u. not (is_held new s u)) ts)) first
    ∙ ap (λ l. cond (not (is_held old s t)) (t ∷ l) l) rest

pub pending-unread : (c : CoreView) (w : WorldView) → IsUnread c.world w c.shelf → pending (record c { world = w }) ≡ pending c
unfolding pending
pending-unread c w h =
    ap (filter (λ t. not (is_held w c.shelf t))) h.tests ∙ unheld-unread c.world w c.shelf (selected c.world) h.answers
