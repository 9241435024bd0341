-- An evaluation, running or asking, may go to another thread.
use denote.Enum.Declared.{shape, variants}
use denote.Param.Send.{EachSend, IsSend, IsSync, enum_send, recorded_send, sendable}
use Rattle.std.proofs.Crossing.{Box-send}
use Rattle.dg_bytes.proofs.bytes.Bytes.TheSendSync as bytes
use Rattle.dg_bytes.proofs.seq.Seq.TheSendSync as seq
use Rattle.dg_forms.specs.contracts.elements.Elements as Elements
use Rattle.dg_language.proofs.queue.Queue.TheSendSync as queue
use Rattle.dg_language.proofs.state.State.TheSendSync as state
use Rattle.dg_shelf.proofs.shelf.Shelf.TheSendSync as shelf
use Rattle.dg_language.proofs.ask.Ask.TheSendSync as ask
use Rattle.dg_language.specs.contracts.ask.Ask as Ask
use Rattle.dg_language.proofs.expect.Pair.TheSendSync as pair
use Rattle.dg_match.proofs.Crosses.{Pattern-send, Programs-send}
use Rattle.dg_world.proofs.test_id.TestId.TheSendSync as test
use Rattle.dg_machine.proofs.boxed.Boxed.TheSendSync as boxed
use Rattle.dg_machine.proofs.frame.Acting.TheSendSync as acting
use Rattle.dg_machine.proofs.frame.Choice.TheSendSync as choice
use Rattle.dg_machine.proofs.frame.Compiling.TheSendSync as compiling
use Rattle.dg_machine.proofs.frame.Control.TheSendSync as control
use Rattle.dg_machine.proofs.frame.Limiting.TheSendSync as limiting
use Rattle.dg_compiled.proofs.making.Making.TheSendSync as making
use Rattle.dg_machine.proofs.frame.Opening.TheSendSync as opening
use Rattle.dg_machine.proofs.frame.Reach.TheSendSync as reach
use Rattle.dg_compiled.proofs.stack.Stack.TheSendSync as stack
use Rattle.dg_machine.proofs.frame.LoopPart.TheSendSync as stage
use Rattle.dg_machine.specs.contracts.frame.Wait as Wait
use Rattle.dg_machine.specs.contracts.boxed.Boxed as Boxed
use Rattle.dg_machine.specs.contracts.evaluation.Asking as Asking
use Rattle.dg_machine.specs.contracts.evaluation.Evaluation as Evaluation
use Rattle.dg_machine.specs.contracts.frame.Frame as Frame
use Rattle.dg_machine.specs.contracts.frame.Repetition as Repetition
use Rattle.dg_machine.specs.contracts.frame.Rounds as Rounds
use Rattle.dg_machine.specs.contracts.machine.Machine as Machine
use Rattle.dg_machine.specs.contracts.patterns.Prepared as Prepared
use Rattle.dg_machine.specs.contracts.readings.Readings as Readings
use Rattle.dg_machine.specs.contracts.readings.Shelves as Shelves
use Rattle.dg_compiled.proofs.Crosses.{Read-send, Read-sync, Formula-send, Formula-sync, Listing-send, Listing-sync, WordList-send, WordList-sync, Script-send, Body-send, Calculation-send, Condition-send}

Elements-send : IsSend Elements.the_row
Elements-send = search (sendable, bytes.the_send, seq.the_send) depth 20

Elements-sync : IsSync Elements.the_row
Elements-sync = search (sendable, bytes.the_sync, seq.the_sync) depth 20

Rounds-send : IsSend Rounds.the_field.row
Rounds-send = search (sendable, bytes.the_send, seq.the_send, queue.the_send, Body-send) depth 20

Repetition-send : IsSend Repetition.the_row
Repetition-send = search (sendable, bytes.the_send, stage.the_field_send, Body-send, Condition-send) depth 20

Kept-repetition-send : IsSend (Boxed.the_field Repetition.the_row).row
Kept-repetition-send = boxed.the_send Repetition.the_row Repetition-send

Prepared-send : IsSend Prepared.the_row
Prepared-send = search (sendable, seq.the_send, pair.the_field_send, Pattern-send) depth 20

Wait-send : IsSend Wait.the_field.row
Wait-send = search (sendable, Prepared-send) depth 20

-- each of the frames in its order, and each of its fields
Frames-send : EachSend (variants Frame.the_type)
Frames-send = (
  (opening.the_field_send, tt),
  (
    (opening.the_field_send, tt),
    (
      (Script-send, (search sendable, tt)),
      (
        (making.the_field_send, (search sendable, tt)),
        (
          (search (sendable, bytes.the_send, seq.the_send, queue.the_send) depth 20, (search sendable, tt)),
          (
            (search (sendable, bytes.the_send, seq.the_send, queue.the_send) depth 20, tt),
            (
              tt,
              (
                tt,
                (
                  (Rounds-send, tt),
                  (
                    (search sendable, (search (sendable, bytes.the_send, seq.the_send, queue.the_send) depth 20, tt)),
                    (
                      (Calculation-send, tt),
                      (
                        tt,
                        (
                          (choice.the_field_send, tt),
                          (
                            (Kept-repetition-send, tt),
                            (
                              (acting.the_field_send, tt),
                              (
                                (search sendable, tt),
                                (
                                  (search (sendable, bytes.the_send, seq.the_send, queue.the_send) depth 20, (search sendable, tt)),
                                  (
                                    (limiting.the_field_send, tt),
                                    (
                                      (compiling.the_field_send, tt),
                                      (
                                        (reach.the_field_send, (Wait-send, tt)),
                                        (
                                          (
                                            search (sendable, bytes.the_send, queue.the_send) depth 20,
                                            (search (sendable, bytes.the_send, queue.the_send) depth 20, tt),
                                          ),
                                          tt,
                                        ),
                                      ),
                                    ),
                                  ),
                                ),
                              ),
                            ),
                          ),
                        ),
                      ),
                    ),
                  ),
                ),
              ),
            ),
          ),
        ),
      ),
    ),
  ),
)

Frame-send : IsSend Frame.the_row
Frame-send = let each = enum_send (shape Frame.the_type) Frames-send in search (recorded_send) depth 20

Shelves-send : IsSend Shelves.the_row
Shelves-send = search (sendable, Programs-send, shelf.the_send, Read-send, Read-sync, Formula-send, Formula-sync, Elements-send, Elements-sync, Listing-send, Listing-sync, WordList-send, WordList-sync) depth 20

Machine-send : IsSend Machine.the_field.row
Machine-send =
    let frames = stack.the_send Frame.the_row Frame-send in
    search (sendable, state.the_send, control.the_field_send, Box-send, Shelves-send) depth 20

-- as a field of a value that crosses
pub Readings-send : IsSend Readings.the_field.row
Readings-send = search (sendable, Box-send, Shelves-send) depth 20

Kept-machine-send : IsSend (Boxed.the_row Machine.the_row)
Kept-machine-send = let machine : IsSend Machine.the_row = search (recorded_send, Machine-send) depth 20 in boxed.the_send Machine.the_row machine

Kept-ask-send : IsSend (Boxed.the_row Ask.the_row)
Kept-ask-send = boxed.the_send Ask.the_row ask.the_send

pub Evaluation-send : IsSend Evaluation.the_row
Evaluation-send = search (sendable, test.the_send, Kept-machine-send) depth 20

pub Asking-send : IsSend Asking.the_row
Asking-send = search (sendable, test.the_send, Kept-machine-send, Kept-ask-send) depth 20
