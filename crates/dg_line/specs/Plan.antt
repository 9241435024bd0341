-- The plan of a line.
use Rattle.std.specs.Prelude.{ℕ, Bool, true, false, ◌+◌, ◌≡◌, ◌≢◌, List, [], ◌∷◌, codes, nat_eq, if◌then◌else◌, Option, Some, None, Result, Ok, Err}
use Rattle.std.specs.Cmp.Lexicographic.{pointwise}
use Rattle.clap.specs.Walk.{Row, Text, first_of}
use Rattle.clap.specs.Faults.{fault_of}
use Rattle.clap.specs.Kinds.{IsAmong}
use Rattle.clap.specs.declared.error.kind.ErrorKind.{ErrorKind}
use Rattle.clap.specs.declared.error.kind.ErrorKind.TheVariants.{DisplayHelp, DisplayVersion, OutOfMemory}
use Rattle.dg_line.specs.Options.{line_app, line_rows}
use Rattle.dg_line.specs.Words.{bad_word_in}
use Rattle.dg_line.specs.Values.{jobs_in, option_or, selected_by, selects_well, words_of}
use Rattle.dg_line.specs.declared.plan.Plan.{Plan}
use Rattle.dg_line.specs.declared.plan.Mode.{Mode}
use Rattle.dg_line.specs.declared.plan.Mode.TheVariants.{Run, Rejudge, Session}
use Rattle.dg_line.specs.declared.fault.LineFault.{LineFault}
use Rattle.dg_line.specs.declared.fault.LineFault.TheVariants as fault

-- whether a line has neither an option nor a word: it is empty, or `--` alone, which only ends the options
abbrev pub is_bare : List Text → Bool
is_bare [] = true
is_bare (word ∷ []) = pointwise nat_eq word (codes "--")
is_bare others = false

-- whether a flag is there
abbrev pub is_true : Option Text → Bool
is_true None = false
is_true (Some text) = pointwise nat_eq text (codes "true")

abbrev pub has_flag : Text → List Row → Bool
has_flag name rows = is_true (first_of name rows)

-- what a line is for: both flags are too many
abbrev pub mode_by : (is_bare rejudges serves : Bool) → Option Mode
mode_by bare true true = None
mode_by bare true false = Some Rejudge
mode_by bare false true = Some Session
mode_by bare false false = Some (if bare then Session else Run)

abbrev pub mode_of : Bool → List Row → Option Mode
mode_of bare rows = mode_by bare (has_flag (codes "rejudge") rows) (has_flag (codes "session") rows)

-- the plan in a mode
abbrev pub plan_made : Mode → List Row → Plan
plan_made mode rows =
    record {
      mode = mode;
      srcdir = option_or rows (codes "srcdir") (codes ".");
      outdir = option_or rows (codes "outdir") (codes ".");
      jobs = jobs_in (first_of (codes "jobs") rows);
      selection = selected_by rows;
    }

-- the plan in a mode, where what is selected is valid
abbrev pub plan_in : Option Mode → List Row → Result Plan LineFault
plan_in None rows = Err fault.TwoModes
plan_in (Some mode) rows = if selects_well rows then Ok (plan_made mode rows) else Err fault.BadSelection

-- the plan where this is the place of the first bad word
abbrev pub plan_where : Option ℕ → Option Mode → List Row → Result Plan LineFault
plan_where (Some place) mode rows = Err (fault.BadWord (place + 1))
plan_where None mode rows = plan_in mode rows

-- the plan of a line by what its words match, or its first fault: a bad word, two modes, a bad selection
unfoldable pub plan_by : Bool → List Row → Result Plan LineFault
plan_by bare rows = plan_where (bad_word_in (words_of rows)) (mode_of bare rows) rows

-- the plan of words that match
abbrev pub planned : List Text → Result Plan LineFault
planned words = plan_by (is_bare words) (line_rows words)

-- whether the words ask for a text
abbrev pub asks : ErrorKind → Bool
asks DisplayHelp = true
asks DisplayVersion = true
asks _ = false

-- whether `clap` gives no matches, for a cause that asks for a text or for one that doesn't
abbrev pub IsRefused : Bool → List Text → Type 0
IsRefused asking words = (kind : ErrorKind) × IsAmong kind (fault_of line_app words) × (asks kind ≡ asking)

-- a line has this plan
abbrev pub HasPlan : List Text → Plan → Type 0
HasPlan words plan = (fault_of line_app words ≡ []) × (planned words ≡ Ok plan)

-- a line has this fault, want of memory aside
abbrev pub HasFault : List Text → LineFault → Type 0
HasFault words (fault.Words text) = IsRefused false words
HasFault words (fault.Shown text) = IsRefused true words
HasFault words fault.Memory = Unit {0}
HasFault words (fault.BadWord place) = (fault_of line_app words ≡ []) × (planned words ≡ Err (fault.BadWord place))
HasFault words fault.TwoModes = (fault_of line_app words ≡ []) × (planned words ≡ Err fault.TwoModes)
HasFault words fault.BadSelection = (fault_of line_app words ≡ []) × (planned words ≡ Err fault.BadSelection)

-- the fault that an error of `clap` makes: want of memory, or a text
abbrev pub IsFaultOf : ErrorKind → LineFault → Type 0
IsFaultOf kind (fault.Words text) = (asks kind ≡ false) × (kind ≢ OutOfMemory)
IsFaultOf kind (fault.Shown text) = asks kind ≡ true
IsFaultOf kind fault.Memory = Unit {0}
IsFaultOf kind (fault.BadWord place) = ⊥
IsFaultOf kind fault.TwoModes = ⊥
IsFaultOf kind fault.BadSelection = ⊥

-- whether a fault is want of memory
abbrev pub is_memory : LineFault → Bool
is_memory fault.Memory = true
is_memory _ = false
