-- What was read of a text may go to another thread.
use denote.Param.Send.{IsSend, IsSync, sendable}
use Rattle.std.proofs.Crossing.{Arc-send, Arc-sync, Vec-send, Vec-sync}
use Rattle.dg_bytes.proofs.bytes.Bytes.TheSendSync as bytes
use Rattle.dg_bytes.proofs.seq.Seq.TheSendSync as seq
use Rattle.dg_words.proofs.word.Parts.TheLaws.TheKnot.{both_send-Parts, both_sync-Parts}
use Rattle.dg_language.proofs.Crosses.{Instruction-send, Instruction-sync}
use Rattle.dg_bytes.specs.contracts.seq.Seq as Seq
use Rattle.dg_words.specs.contracts.word.Parts as Parts
use Rattle.dg_words.specs.contracts.word.Word as Word
use Rattle.dg_language.specs.contracts.substitution.Substitution as Substitution
use Rattle.dg_expr.specs.contracts.code.Instruction as Instruction
use Rattle.dg_compiled.proofs.stack.Stack.TheSendSync as stack
use Rattle.dg_compiled.specs.contracts.calculation.Calculation as Calculation
use Rattle.dg_compiled.specs.contracts.instructions.Formula as Formula
use Rattle.dg_compiled.specs.contracts.lists.Listing as Listing
use Rattle.dg_compiled.specs.contracts.word_lists.WordList as WordList
use Rattle.dg_compiled.specs.contracts.instructions.Instructions as Instructions
use Rattle.dg_compiled.specs.contracts.instructions.Condition as Condition
use Rattle.dg_compiled.specs.contracts.script.Body as Body
use Rattle.dg_compiled.specs.contracts.script.Commands as Commands
use Rattle.dg_compiled.specs.contracts.script.KeptCommand as KeptCommand
use Rattle.dg_compiled.specs.contracts.script.Script as Script
use Rattle.dg_compiled.specs.contracts.script.Source as Source
use Rattle.dg_compiled.specs.contracts.ways.Way as Way
use Rattle.dg_language.specs.contracts.command.Command as Command

Substitution-send : IsSend Substitution.the_row
Substitution-send = search (sendable, bytes.the_send) depth 20

Substitution-sync : IsSync Substitution.the_row
Substitution-sync = search (sendable, bytes.the_sync) depth 20

Steps-send : IsSend (Seq.the_row (Seq.the_row Substitution.the_row))
Steps-send = seq.the_send (Seq.the_row Substitution.the_row) (seq.the_send Substitution.the_row Substitution-send)

Steps-sync : IsSync (Seq.the_row (Seq.the_row Substitution.the_row))
Steps-sync = seq.the_sync (Seq.the_row Substitution.the_row) (seq.the_sync Substitution.the_row Substitution-sync)

pub Formula-send : IsSend Formula.the_row
Formula-send = let code = seq.the_send Instruction.the_row Instruction-send in search (sendable, Steps-send) depth 20

pub Formula-sync : IsSync Formula.the_row
Formula-sync = let code = seq.the_sync Instruction.the_row Instruction-sync in search (sendable, Steps-sync) depth 20

Parts-send : IsSend Parts.the_row
Parts-send = both_send-Parts (λ h s y. Vec-send h s) bytes.the_send (λ h s y. Vec-sync h y) bytes.the_sync

Parts-sync : IsSync Parts.the_row
Parts-sync = both_sync-Parts (λ h s y. Vec-send h s) bytes.the_send (λ h s y. Vec-sync h y) bytes.the_sync

Word-send : IsSend Word.the_row
Word-send = search (sendable, Parts-send) depth 20

Word-sync : IsSync Word.the_row
Word-sync = search (sendable, Parts-sync) depth 20

Command-send : IsSend Command.the_field.row
Command-send = let words = seq.the_send Word.the_row Word-send in search sendable depth 20

Command-sync : IsSync Command.the_field.row
Command-sync = let words = seq.the_sync Word.the_row Word-sync in search sendable depth 20

Way-send : IsSend Way.the_field.row
Way-send = let kept = Arc-send Formula.the_row Formula-send Formula-sync in search sendable depth 20

Way-sync : IsSync Way.the_field.row
Way-sync = let kept = Arc-sync Formula.the_row Formula-send Formula-sync in search sendable depth 20

KeptCommand-send : IsSend KeptCommand.the_row
KeptCommand-send = let steps = seq.the_send Substitution.the_row Substitution-send in search (sendable, Command-send, Way-send) depth 20

KeptCommand-sync : IsSync KeptCommand.the_row
KeptCommand-sync = let steps = seq.the_sync Substitution.the_row Substitution-sync in search (sendable, Command-sync, Way-sync) depth 20

pub Read-send : IsSend Commands.the_row
Read-send = let kept = seq.the_send KeptCommand.the_row KeptCommand-send in search sendable depth 20

pub Read-sync : IsSync Commands.the_row
Read-sync = let kept = seq.the_sync KeptCommand.the_row KeptCommand-sync in search sendable depth 20

pub WordList-send : IsSend WordList.the_field.row
WordList-send = let steps = seq.the_send Substitution.the_row Substitution-send in search sendable depth 20

pub WordList-sync : IsSync WordList.the_field.row
WordList-sync = let steps = seq.the_sync Substitution.the_row Substitution-sync in search sendable depth 20

pub Listing-send : IsSend Listing.the_row
Listing-send = search (sendable, bytes.the_send) depth 20

pub Listing-sync : IsSync Listing.the_row
Listing-sync = search (sendable, bytes.the_sync) depth 20

Instructions-send : IsSend Instructions.the_row
Instructions-send = let kept = Arc-send Formula.the_row Formula-send Formula-sync in search sendable depth 20

Source-send : IsSend Source.the_field.row
Source-send = let kept = Arc-send Commands.the_row Read-send Read-sync in search (sendable, bytes.the_send) depth 20

pub Script-send : IsSend Script.the_row
Script-send = search (sendable, Source-send) depth 20

pub Body-send : IsSend Body.the_row
Body-send = let kept = Arc-send Commands.the_row Read-send Read-sync in search (sendable, bytes.the_send) depth 20

pub Calculation-send : IsSend Calculation.the_field.row
Calculation-send = search (sendable, bytes.the_send, stack.the_send, Instructions-send) depth 20

pub Condition-send : IsSend Condition.the_row
Condition-send = let kept = Arc-send Formula.the_row Formula-send Formula-sync in search (sendable, bytes.the_send) depth 20
