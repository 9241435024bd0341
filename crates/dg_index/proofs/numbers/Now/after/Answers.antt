use Rattle.std.proofs.Common.{◌∙◌, ap, subst, sym}
use Rattle.dg_world.specs.World.{edited}
use Rattle.dg_world.specs.declared.edit.Edit.{Edit}
use Rattle.dg_index.specs.Numbers.{TellsOn}
use Rattle.dg_index.specs.Topic.{touched}
use Rattle.dg_index.specs.declared.numbers.Now.TheVariants.{Numbered}
use Rattle.dg_index.proofs.NumbersLemmas.{put-tells}
use Rattle.dg_index.proofs.numbers.Now.after.Goals as goal

pub returns-in-PutFile-clause-tells : goal.returns-in-PutFile-clause-tells
returns-in-PutFile-clause-tells c w v made =
    subst (λ (e : Edit). TellsOn c.args.contents.now v (touched e) (Numbered c.find.result)) (sym c.in-PutFile.is)
    (put-tells c.args.contents.now w v c.in-PutFile.field-0 c.in-PutFile.bytes (Numbered c.find.result) c.find.ensures.numbering
    (ap Numbered c.find.ensures.value) (ap (edited w) (sym c.in-PutFile.is) ∙ made))
