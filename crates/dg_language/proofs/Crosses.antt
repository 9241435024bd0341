-- The words and commands of a text, and an expression's instructions, may go to another thread; threads may share commands and instructions.
use denote.Param.Send.{IsSend, IsSync, sendable}
use Rattle.std.proofs.Crossing.{Vec-send, Vec-sync}
use Rattle.dg_bytes.proofs.bytes.Bytes.TheSendSync as bytes
use Rattle.dg_bytes.proofs.seq.Seq.TheSendSync as seq
use Rattle.dg_words.proofs.word.Parts.TheLaws.TheKnot.{both_send-Parts, both_sync-Parts}
use Rattle.dg_bytes.specs.contracts.seq.Seq as Seq
use Rattle.dg_words.specs.contracts.word.Parts as Parts
use Rattle.dg_words.specs.contracts.word.Word as Word
use Rattle.dg_expr.proofs.operator.Infix.TheSendSync as between
use Rattle.dg_expr.proofs.operator.Prefix.TheSendSync as before
use Rattle.dg_expr.specs.contracts.code.Instruction as Instruction
use Rattle.dg_language.specs.contracts.command.Command as Command

Parts-send : IsSend Parts.the_row
Parts-send = both_send-Parts (λ h s y. Vec-send h s) bytes.the_send (λ h s y. Vec-sync h y) bytes.the_sync

Parts-sync : IsSync Parts.the_row
Parts-sync = both_sync-Parts (λ h s y. Vec-send h s) bytes.the_send (λ h s y. Vec-sync h y) bytes.the_sync

Word-send : IsSend Word.the_row
Word-send = search (sendable, Parts-send) depth 20

Word-sync : IsSync Word.the_row
Word-sync = search (sendable, Parts-sync) depth 20

Words-send : IsSend (Seq.the_row Word.the_row)
Words-send = seq.the_send Word.the_row Word-send

Words-sync : IsSync (Seq.the_row Word.the_row)
Words-sync = seq.the_sync Word.the_row Word-sync

pub Instruction-send : IsSend Instruction.the_row
Instruction-send = search (sendable, Parts-send, between.the_field_send, before.the_field_send) depth 40

pub Instruction-sync : IsSync Instruction.the_row
Instruction-sync = search (sendable, Parts-sync, between.the_field_sync, before.the_field_sync) depth 40

Command-send : IsSend Command.the_row
Command-send = search (sendable, Words-send) depth 20

Command-sync : IsSync Command.the_row
Command-sync = search (sendable, Words-sync) depth 20

pub Commands-send : IsSend (Seq.the_row Command.the_row)
Commands-send = seq.the_send Command.the_row Command-send

pub Commands-sync : IsSync (Seq.the_row Command.the_row)
Commands-sync = seq.the_sync Command.the_row Command-sync
