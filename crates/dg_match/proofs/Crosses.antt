-- A built pattern may go to another thread, and threads may share one.
use denote.Param.Send.{IsSend, IsSync, sendable}
use Rattle.std.proofs.Crossing.{Box-send, Box-sync, Vec-send, Vec-sync, crosses}
use Rattle.regex_class.proofs.Class.TheSendSync as class
use Rattle.regex_dfa.proofs.dfa.Dfa.TheSendSync as dfa
use Rattle.regex_extract.proofs.frames.Frame.TheSendSync as frame
use Rattle.regex_hir.proofs.hir.Hir.TheLaws.TheKnot.{both_send-Hir, both_sync-Hir}
use Rattle.regex_hir.proofs.look.Look.TheSendSync as look
use Rattle.regex_hir.specs.contracts.hir.Hir as Hir
use Rattle.regex_literal.proofs.byte_set.ByteSet.TheSendSync as byte_set
use Rattle.regex_literal.proofs.caseless.Caseless.TheSendSync as caseless
use Rattle.regex_literal.proofs.ladder.Ladder.TheSendSync as ladder
use Rattle.regex_literal.proofs.prefilter.Prefilter.TheSendSync as prefilter
use Rattle.regex_meta.proofs.plan.Role.TheSendSync as role
use Rattle.regex_meta.specs.contracts.plan.Plan as Plan
use Rattle.regex_meta.specs.contracts.plan.Plans as Plans
use Rattle.regex_meta.specs.contracts.program.Program as Program
use Rattle.regex_meta.specs.contracts.signs.Signs as Signs
use Rattle.regex_syntax.proofs.Config.TheSendSync as config
use Rattle.regex.specs.contracts.bytes.regex.Regex as Regex
use Rattle.regex.specs.contracts.pattern.Pattern as Text
use Rattle.indexmap.proofs.map.IndexMap.TheSendSync as index_map
use Rattle.dg_bytes.proofs.bytes.Bytes.TheSendSync as bytes
use Rattle.dg_match.specs.contracts.built.Built as Built
use Rattle.dg_match.specs.contracts.pattern.Pattern as Pattern
use Rattle.dg_match.specs.contracts.programs.Programs as Programs

Hir-send : IsSend Hir.the_field.row
Hir-send =
    both_send-Hir (search (sendable, crosses)) (search (sendable, crosses)) class.the_field_send class.the_field_sync look.the_field_send look.the_field_sync
    (search sendable) (search sendable) (search sendable) (search sendable) (search sendable) (search sendable)
    (λ h s y. Box-send h s) (λ h s y. Box-sync h y) (λ h s y. Vec-send h s) (λ h s y. Vec-sync h y)

Hir-sync : IsSync Hir.the_field.row
Hir-sync =
    both_sync-Hir (search (sendable, crosses)) (search (sendable, crosses)) class.the_field_send class.the_field_sync look.the_field_send look.the_field_sync
    (search sendable) (search sendable) (search sendable) (search sendable) (search sendable) (search sendable)
    (λ h s y. Box-send h s) (λ h s y. Box-sync h y) (λ h s y. Vec-send h s) (λ h s y. Vec-sync h y)

Plan-send : IsSend Plan.the_field.row
Plan-send = search (sendable, Hir-send, role.the_field_send, prefilter.the_send, frame.the_field_send, ladder.the_field_send) depth 40

Plan-sync : IsSync Plan.the_field.row
Plan-sync = search (sendable, Hir-sync, role.the_field_sync, prefilter.the_sync, frame.the_field_sync, ladder.the_field_sync) depth 40

Plans-send : IsSend Plans.the_field.row
Plans-send = search (sendable, crosses, Plan-send) depth 20

Plans-sync : IsSync Plans.the_field.row
Plans-sync = search (sendable, crosses, Plan-sync) depth 20

Signs-send : IsSend Signs.the_field.row
Signs-send = search (sendable, crosses, Hir-send, caseless.the_send) depth 20

Signs-sync : IsSync Signs.the_field.row
Signs-sync = search (sendable, crosses, Hir-sync, caseless.the_sync) depth 20

Program-send : IsSend Program.the_field.row
Program-send = search (sendable, crosses, Hir-send, dfa.the_field_send, Plans-send, Signs-send, byte_set.the_send) depth 20

Program-sync : IsSync Program.the_field.row
Program-sync = search (sendable, crosses, Hir-sync, dfa.the_field_sync, Plans-sync, Signs-sync, byte_set.the_sync) depth 20

Text-send : IsSend Text.the_field.row
Text-send = search (sendable, crosses, Program-send, config.the_field_send) depth 20

Text-sync : IsSync Text.the_field.row
Text-sync = search (sendable, crosses, Program-sync, config.the_field_sync) depth 20

Regex-send : IsSend Regex.the_field.row
Regex-send = search (sendable, Text-send) depth 20

Regex-sync : IsSync Regex.the_field.row
Regex-sync = search (sendable, Text-sync) depth 20

pub Built-send : IsSend Built.the_row
Built-send = search (sendable, crosses, Regex-send, Regex-sync) depth 20

pub Built-sync : IsSync Built.the_row
Built-sync = search (sendable, crosses, Regex-send, Regex-sync) depth 20

pub Pattern-send : IsSend Pattern.the_row
Pattern-send = search (sendable, bytes.the_send, Built-send) depth 20

pub Programs-send : IsSend Programs.the_row
Programs-send = search (sendable, crosses, index_map.the_send, bytes.the_send, Built-send) depth 20
