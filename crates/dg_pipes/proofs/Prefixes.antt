-- Beginnings of lists.
use Rattle.std.proofs.Common.{◌≡◌, List, ◌++◌, ◌∷◌, [], refl, sym, ap, ◌∙◌, append_assoc}
use Rattle.std.specs.Prelude.{not}
use mathlib.Core.List.{IsPrefix}
use Rattle.dg_pipes.specs.declared.item.Item.{Item}
use Rattle.dg_pipes.specs.Items.{is_chunk, has_ended}

pub longer : {A : Type 0} (front middle more whole : List A) → IsPrefix front middle → whole ≡ middle ++ more → IsPrefix front whole
longer front middle more whole p e = (p.0 ++ more, sym (append_assoc front p.0 more) ∙ ap (λ zs. zs ++ more) p.1 ∙ sym e)

pub ended_by : (items : List Item) (x : Item) → has_ended (items ++ x ∷ []) ≡ not (is_chunk x)
ended_by [] x = refl
ended_by (y ∷ []) x = refl
ended_by (y ∷ z ∷ zs) x = ended_by (z ∷ zs) x
