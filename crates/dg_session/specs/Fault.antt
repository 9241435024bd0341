-- The faults of a session.
use Rattle.std.specs.declared.io.ErrorKind.{ErrorKind}
use Rattle.std.specs.declared.io.ErrorKind.TheVariants.{OutOfMemory}
use Rattle.dg_session.specs.declared.fault.SessionFault.{SessionFault}
use Rattle.dg_session.specs.declared.fault.SessionFault.TheVariants.{Memory, ReadFault}

-- the fault of a read that failed in this way
abbrev pub fault_of_kind : ErrorKind → SessionFault
fault_of_kind OutOfMemory = Memory
fault_of_kind _ = ReadFault
