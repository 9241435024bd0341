-- A report has more bytes than lines.
use Rattle.std.proofs.Common.{◌≤◌, ℕ, true, false, cond, List, [], ◌∷◌, ◌++◌, length, arith, length-append, codes}
use Rattle.std.specs.List.{flat_map}
use Rattle.dg_bytes.specs.Same.{same_bytes}
use Rattle.dg_world.specs.declared.selection.Selection.{Selection}
use Rattle.dg_results.specs.Classes.{class_name}
use Rattle.dg_results.specs.declared.verdict.Line.{Line}
use Rattle.dg_sum.specs.Report.{line_text, script_text, lines_on, lines_of_board, own_summary, board_text}
use Rattle.dg_sum.specs.Judged.{Judged}

-- what is longer for each item is longer for all
pub longer : {X A B : Type 0} (f : X → List A) (g : X → List B) → ((x : X) → length (f x) ≤ length (g x)) → (xs : List X) → length (flat_map f xs) ≤ length (flat_map g xs)
longer f g each [] = omega arith
longer f g each (x ∷ xs) = omega (arith, longer f g each xs, each x, length-append (f x) (flat_map f xs), length-append (g x) (flat_map g xs))

-- each line has a byte
lines_short : (lines : List Line) → length lines ≤ length (flat_map line_text lines)
lines_short [] = omega arith
lines_short (l ∷ lines) =
    omega (arith, lines_short lines, length-append (class_name l.class ++ codes ": " ++ l.message) (codes "\n"), length-append (line_text l) (flat_map line_text lines))

pub test_short : (board : List ℕ) (j : Judged) → length (lines_on board j) ≤ length (script_text board j)
test_short board j =
    elim (same_bytes j.test.board board) as (λ b. length (cond b j.verdict []) ≤ length (cond b (codes "Running " ++ j.test.script ++ codes " ...\n" ++ flat_map line_text j.verdict) [])) [
      | true ↦ omega (arith, lines_short j.verdict, length-append (codes "Running " ++ j.test.script ++ codes " ...\n") (flat_map line_text j.verdict))
      | false ↦ omega arith
    ]

tests_short : (judged : List Judged) (board : List ℕ) → length (lines_of_board judged board) ≤ length (flat_map (script_text board) judged)
tests_short judged board = longer (lines_on board) (script_text board) (test_short board) judged

middle : (a b c : List ℕ) → length b ≤ length ((a ++ b) ++ c)
middle a b c = omega (arith, length-append (a ++ b) c, length-append a b)

pub board_short : (s : Selection) (judged : List Judged) (board : List ℕ) → length (lines_of_board judged board) ≤ length (board_text s judged board)
unfolding board_text
board_short s judged board =
    let within : length (flat_map (script_text board) judged) ≤ length (board_text s judged board) = middle (codes "\nRunning target " ++ board ++ codes "\n") (flat_map (script_text board) judged) (own_summary s judged board) in
    omega (arith, tests_short judged board)
