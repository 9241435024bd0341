-- Worked rows of the lines.
use Rattle.std.proofs.Common.{◌≡◌, [], ◌∷◌, None, Some, refl}
use Rattle.dg_results.specs.declared.class.Class.TheVariants as class
use Rattle.dg_results.specs.declared.call.ResultCall.TheVariants.{Pass, Fail, Perror, Warning, Untested, SetupXfail, SetupKfail, ClearKfail}
use Rattle.dg_results.specs.Lines.{line, lines_of}

-- a flag counts for one result
flag_once : lines_of (SetupXfail ∷ Fail (120 ∷ []) ∷ Fail (120 ∷ []) ∷ []) ≡ line class.XFail (120 ∷ []) ∷ line class.Fail (120 ∷ []) ∷ []
unfolding lines_of
flag_once = refl

-- three warnings leave a pass unresolved
three_warnings : lines_of (Warning (97 ∷ []) None ∷ Warning (97 ∷ []) None ∷ Warning (97 ∷ []) None ∷ Pass (112 ∷ []) ∷ Pass (112 ∷ []) ∷ []) ≡ line class.Warning (97 ∷ []) ∷ line class.Warning (97 ∷ []) ∷ line class.Warning (97 ∷ []) ∷ line class.Unresolved (112 ∷ []) ∷ line class.Pass (112 ∷ []) ∷ []
unfolding lines_of
three_warnings = refl

-- two don't
two_warnings : lines_of (Warning (97 ∷ []) None ∷ Warning (97 ∷ []) None ∷ Pass (112 ∷ []) ∷ []) ≡ line class.Warning (97 ∷ []) ∷ line class.Warning (97 ∷ []) ∷ line class.Pass (112 ∷ []) ∷ []
unfolding lines_of
two_warnings = refl

-- a count that is given takes the place of the one before, and calls after it add
count_given : lines_of (Warning [] (Some 7) ∷ Warning [] (Some 1) ∷ Warning [] None ∷ Pass [] ∷ Warning [] (Some 2) ∷ Warning [] None ∷ Pass [] ∷ []) ≡ line class.Warning [] ∷ line class.Warning [] ∷ line class.Warning [] ∷ line class.Pass [] ∷ line class.Warning [] ∷ line class.Warning [] ∷ line class.Unresolved [] ∷ []
unfolding lines_of
count_given = refl

-- an error whose count is 0 is no error, and errors go before flags
errors_first : lines_of (Perror [] (Some 0) ∷ Pass [] ∷ SetupKfail ∷ Perror [] None ∷ Fail [] ∷ []) ≡ line class.Error [] ∷ line class.Pass [] ∷ line class.Error [] ∷ line class.Unresolved [] ∷ []
unfolding lines_of
errors_first = refl

-- the kfail flag goes before the xfail flag, a clear undoes a setup, and each result clears both flags
flags : lines_of (SetupXfail ∷ SetupKfail ∷ Fail [] ∷ SetupXfail ∷ SetupKfail ∷ ClearKfail ∷ Pass [] ∷ SetupKfail ∷ Untested [] ∷ Pass [] ∷ []) ≡ line class.KFail [] ∷ line class.XPass [] ∷ line class.Untested [] ∷ line class.Pass [] ∷ []
unfolding lines_of
flags = refl
