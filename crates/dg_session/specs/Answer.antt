-- What a line of a session is answered.
use Rattle.std.specs.Prelude.{ℕ, List, [], ◌++◌, codes, decimal, length}
use Rattle.dg_session.specs.declared.answer.LineAnswer.{LineAnswer}
use Rattle.dg_session.specs.declared.answer.LineAnswer.TheVariants.{Done, Refused, BadTranscript, Sum, Fault, Unknown}

-- the first line of an answer
unfoldable pub first_line_of : LineAnswer → List ℕ
first_line_of Done = codes "ok\n"
first_line_of (Refused number) = codes "refused " ++ decimal number ++ codes "\n"
first_line_of (BadTranscript line cause) = codes "refused 7 " ++ decimal line ++ codes " " ++ decimal cause ++ codes "\n"
first_line_of (Sum status evaluated report) =
    codes "sum " ++ decimal status ++ codes " " ++ decimal (length report) ++ codes " " ++ decimal evaluated ++ codes "\n"
first_line_of (Fault number) = codes "fault " ++ decimal number ++ codes "\n"
first_line_of Unknown = codes "unknown\n"

-- what follows the first line: of a sum the report
abbrev pub report_in : LineAnswer → List ℕ
report_in Done = []
report_in (Refused number) = []
report_in (BadTranscript line cause) = []
report_in (Sum status evaluated report) = report
report_in (Fault number) = []
report_in Unknown = []

-- the bytes of an answer
abbrev pub text_of : LineAnswer → List ℕ
text_of answer = first_line_of answer ++ report_in answer
