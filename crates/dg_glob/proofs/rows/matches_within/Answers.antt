use Rattle.std.proofs.Common.{◌≡◌, ◌+◌, ◌-◌, ◌||◌, ◌↔◌, true, ◌∷◌, arith, length, drop, sym, ap, ◌∙◌, subst}
use Rattle.std.proofs.lemmas.List.{take_rest, drop_all, drop-drop}
use Rattle.dg_glob.specs.Rows.{FewLeft, IsRow}
use Rattle.dg_glob.proofs.RowLemmas.{found_at_end, found_before}
use Rattle.dg_glob.proofs.rows.matches_within.Goals as goal

pub loop-start-init : goal.loop-start-init
loop-start-init c =
    let k = c.args.limit in
    let p = c.args.pattern.now in
    let t = c.args.text.now in
    let row : IsRow k p (drop (length t) t) c.fill_row.new.row = subst (λ y. IsRow k p y c.fill_row.new.row) (take_rest t (length t)) c.fill_row.ensures in
    let found = found_at_end k p (drop (length t) t) c.fill_row.new.row (drop_all (length t) t (omega arith)) row in
    record {
      within = omega arith;
      row = row;
      found = (λ e. found.0 (sym c.is_marked-found.ensures ∙ e), λ f. c.is_marked-found.ensures ∙ found.1 f);
    }

pub fill_row-requires-in-loop-start-clause-later : goal.fill_row-requires-in-loop-start-clause-later
fill_row-requires-in-loop-start-clause-later c = λ positive.
    let k = c.args.limit in
    let p = c.args.pattern.now in
    let t = c.args.text.now in
    let s = c.loop-start.start in
    let at : s - 1 + 1 ≡ s = let test = c.loop-start-test.true in omega arith in
    let same = ap (drop 1) (take_rest t (s - 1)) ∙ drop-drop 1 (s - 1) t ∙ ap (λ n. drop n t) at in
    subst (λ y. IsRow k p y c.copy_from_slice.new.self) (sym same) (subst (λ m. IsRow k p (drop s t) m) (sym c.copy_from_slice.ensures.after) c.loop-start.invariant.row)

pub loop-start-preserved : goal.loop-start-preserved
loop-start-preserved c =
    let k = c.args.limit in
    let p = c.args.pattern.now in
    let t = c.args.text.now in
    let s = c.loop-start.start in
    let marks = c.fill_row-in-loop-start.new.row in
    let within = c.loop-start.invariant.within in
    let test = c.loop-start-test.true in
    let at : s - 1 + 1 ≡ s = omega arith in
    let row : IsRow k p (drop (s - 1) t) marks = subst (λ y. IsRow k p y marks) (take_rest t (s - 1)) c.fill_row-in-loop-start.ensures in
    let before : (c.loop-start.found ≡ true) ↔ FewLeft k (42 ∷ p) (drop (s - 1 + 1) t) = subst (λ n. (c.loop-start.found ≡ true) ↔ FewLeft k (42 ∷ p) (drop n t)) (sym at) c.loop-start.invariant.found in
    let found = found_before k (s - 1) p t marks c.loop-start.found (omega arith) before row in
    let mark = ap (λ b. c.loop-start.found || b) c.is_marked-found-in-loop-start.ensures in
    record {
      within = omega arith;
      row = row;
      found = (λ e. found.0 (sym mark ∙ e), λ f. mark ∙ found.1 f);
    }
