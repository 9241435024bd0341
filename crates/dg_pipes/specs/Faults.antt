-- What an error of the system is as a fault of a gate.
use Rattle.std.specs.declared.io.ErrorKind.{ErrorKind}
use Rattle.std.specs.declared.io.ErrorKind.TheVariants as kind
use Rattle.dg_transcript.specs.declared.code.ErrorCode.TheVariants.{NotFound, NotPermitted, BrokenPipe, Other}
use Rattle.dg_gate.specs.declared.fault.GateFault.{GateFault}
use Rattle.dg_gate.specs.declared.fault.GateFault.TheVariants.{Device, Memory}

abbrev pub fault_of_kind : ErrorKind → GateFault
fault_of_kind kind.NotFound = Device NotFound
fault_of_kind kind.PermissionDenied = Device NotPermitted
fault_of_kind kind.BrokenPipe = Device BrokenPipe
fault_of_kind kind.OutOfMemory = Memory
fault_of_kind k = Device Other
