-- Commands that run where they stand.
use Rattle.std.proofs.Common.{lit≤, ◌≡◌, ◌≢◌, ℕ, zero, suc, ◌+◌, ◌-◌, ◌<◌, ◌≤◌, Bool, true, false, List, [], ◌∷◌, ◌++◌, drop, length, ap, subst, sym, ◌∙◌, refl, arith}
use Rattle.std.proofs.lemmas.List.{append-nil, drop_all}
use Rattle.std.specs.Prelude.{IfSome, Option, Some, None, Ok, codes}
use Rattle.std.specs.FinMap as names
use Rattle.dg_scope.specs.Names.{global_name}
use Rattle.dg_scope.specs.Scopes.{value_of}
use Rattle.dg_language.specs.declared.code.Code.{Code}
use Rattle.dg_language.specs.declared.code.Code.TheVariants.{Done, Returned}
use Rattle.dg_language.specs.declared.command.Builtin.TheVariants.{Choice as ChoiceBuiltin, Immediate as ImmediateBuiltin, Variable as VariableBuiltin}
use Rattle.dg_language.specs.declared.command.ChoiceCommand.TheVariants.{Expr}
use Rattle.dg_language.specs.declared.command.ImmediateCommand.TheVariants.{Return}
use Rattle.dg_language.specs.Control.{do_return}
use Rattle.dg_language.specs.declared.command.VariableCommand.TheVariants.{Set, Increase}
use Rattle.dg_language.specs.declared.command.Command.{Command}
use Rattle.dg_language.specs.declared.command.Command.TheVariants.{Words, Unreadable}
use Rattle.dg_language.specs.declared.substitution.Substitution.{Substitution}
use Rattle.dg_language.specs.declared.substitution.Substitution.TheVariants.{Literal, Script, WordEnds}
use Rattle.dg_language.specs.State.{State, assigned, stepped}
use Rattle.dg_language.specs.Touch.{value_in_use}
use Rattle.dg_language.specs.Variables.{add_number, do_incr, do_set, increased, is_to_begin, or_zero, store, with_sum}
use Rattle.dg_language.specs.Evaluation.{Then, if_done}
use Rattle.dg_language.specs.Expressions.{calculate, code_in, in_decimal, written}
use Rattle.dg_expr.specs.Reading.{tree_in}
use Rattle.dg_expr.specs.declared.code.Instruction.{Instruction}
use Rattle.dg_language.specs.Builtins.{builtin_of, usable}
use Rattle.dg_language.specs.Language.{command, commands_at, evaluate, known_command, sequence}
use Rattle.dg_language.specs.Words.{Act, longer, words_made}
use Rattle.dg_language.specs.WordSteps.{substitutions}
use Rattle.dg_compiled.specs.Gathering.{gather}
use Rattle.dg_language.proofs.TouchLemmas.{in-use, touch-free, within-short}
use Rattle.dg_machine.specs.Settling.{AsksNothing, ComesBy, GoesOnAs, HasText, IsOnly, Returns, Sets, Settles, Yields}
use Rattle.dg_compiled.specs.Script.{HasSteps, begins}
use Rattle.dg_compiled.specs.Texts.{IsText}
use Rattle.dg_compiled.specs.Ways.{HasCode, HasWord, IsCoded}
use Rattle.dg_machine.specs.declared.frame.Control.{Control}
use Rattle.dg_machine.specs.declared.frame.Control.TheVariants.{Go, Ended}
use Rattle.dg_machine.specs.declared.frame.Frame.{Frame}
use Rattle.dg_machine.specs.declared.frame.Frame.TheVariants.{Repeating}
use Rattle.dg_machine.specs.declared.frame.Repetition.{Repetition}
use Rattle.dg_machine.specs.declared.frame.LoopPart.TheVariants.{Body, Next}
use Rattle.dg_machine.specs.Choosing.{repeating}
use Rattle.dg_compiled.specs.Calculating.{calculating}
use Rattle.dg_compiled.specs.declared.calculation.Calculation.{Calculation}
use Rattle.dg_machine.specs.Meaning.{all_back, back, weight}
use Rattle.dg_compiled.proofs.GatherLemmas.{gather-none, gather-script, gather-word}
use Rattle.dg_compiled.proofs.WordParts.{words-made}
use Rattle.dg_compiled.proofs.ExpressionLemmas.{begun-calculates, expr-short}
use Rattle.dg_machine.proofs.MachineLemmas.{evaluate-inside, sequence-done, tick-step}
use Rattle.dg_machine.proofs.StepLemmas.{command-known}
use Rattle.dg_compiled.proofs.TextLemmas.{word-taken}

-- a step that was given back
abbrev less_a_step : State → State
less_a_step s = record s { steps = s.steps - 1 }

same-again : (s : State) → less_a_step (stepped s) ≡ s
unfolding stepped
same-again s = let same : s.steps + 1 - 1 ≡ s.steps = omega arith in ap (λ n. record s { steps = n }) same

pub given-back : (s t : State) → stepped t ≡ stepped s → t ≡ s
given-back s t e = sym (same-again t) ∙ ap less_a_step e ∙ same-again s

free-stepped : (s : State) (n : List ℕ) → is_to_begin n s ≡ false → is_to_begin n (stepped s) ≡ false
unfolding stepped
free-stepped s n h = h

pub procedures-stepped : (s : State) (n : List ℕ) → names.get (stepped s).procedures n ≡ names.get s.procedures n
unfolding stepped
procedures-stepped s n = refl

pub steps-stepped : (s : State) → 0 < (stepped s).steps
unfolding stepped
steps-stepped s = omega arith

-- words that are one text each were made
module _ (d : ℕ) (act : Act) (s : State) (k : Then) (a b : List ℕ) (long-a : length a ≤ 1048576) (long-b : length b ≤ 1048576) where
  two-words : gather (evaluate d) act [] [] [] (Literal a ∷ WordEnds ∷ Literal b ∷ WordEnds ∷ []) s k ≡ act (a ∷ b ∷ []) s k
  two-words =
      sym (word-taken d act [] [] (Literal b ∷ WordEnds ∷ []) s k (Literal a) a refl long-a)
      ∙ sym (word-taken d act (a ∷ []) [] [] s k (Literal b) b refl long-b)
      ∙ gather-none d act (a ∷ b ∷ []) [] [] [] s k refl

  three-words : (x : Substitution) (v : List ℕ) → IsText s x v → length v ≤ 1048576
      → gather (evaluate d) act [] [] [] (Literal a ∷ WordEnds ∷ Literal b ∷ WordEnds ∷ x ∷ WordEnds ∷ []) s k ≡ act (a ∷ b ∷ v ∷ []) s k
  three-words x v is short =
      sym (word-taken d act [] [] (Literal b ∷ WordEnds ∷ x ∷ WordEnds ∷ []) s k (Literal a) a refl long-a)
      ∙ sym (word-taken d act (a ∷ []) [] (x ∷ WordEnds ∷ []) s k (Literal b) b refl long-b)
      ∙ sym (word-taken d act (a ∷ b ∷ []) [] [] s k x v is short)
      ∙ gather-none d act (a ∷ b ∷ v ∷ []) [] [] [] s k refl

-- no board's file and no script lacks these commands
set-usable : (b : Bool) → usable b (builtin_of (codes "set")) ≡ Some (VariableBuiltin Set)
unfolding builtin_of
set-usable true = refl
set-usable false = refl

incr-usable : (b : Bool) → usable b (builtin_of (codes "incr")) ≡ Some (VariableBuiltin Increase)
unfolding builtin_of
incr-usable true = refl
incr-usable false = refl

-- a short value is stored
stores : (n v : List ℕ) (s : State) (k : Then) → length v ≤ 1048576 → store n v s k ≡ k Done v (assigned n v s)
unfolding store
stores n v s k short = within-short (length v) s (k Done v (assigned n v s)) short

set-does : (d : ℕ) (n v : List ℕ) (s : State) (k : Then) → is_to_begin n s ≡ false → length v ≤ 1048576
    → known_command (evaluate d) (Some (VariableBuiltin Set)) (codes "set") (n ∷ v ∷ []) s k ≡ k Done v (assigned n v s)
unfolding do_set
set-does d n v s k free short = touch-free n (global_name n) s refl (is_to_begin n s) refl free (λ t. store n v t k) ∙ stores n v s k short

-- a number more is stored
adds : (n by old v : List ℕ) (s : State) (k : Then) → value_of s.variables n ≡ Some old → increased old by ≡ Ok v → length v ≤ 1048576
    → add_number n by s k ≡ k Done v (assigned n v s)
unfolding add_number
adds n by old v s k is sum short =
    ap (λ o. with_sum n (increased (or_zero o) by) s k) is ∙ ap (λ r. with_sum n r s k) sum ∙ stores n v s k short

incr-does : (d : ℕ) (n old v : List ℕ) (s : State) (k : Then) → value_in_use n s ≡ Some old → increased old (codes "1") ≡ Ok v → length v ≤ 1048576
    → known_command (evaluate d) (Some (VariableBuiltin Increase)) (codes "incr") (n ∷ []) s k ≡ k Done v (assigned n v s)
unfolding do_incr
incr-does d n old v s k held sum short =
    (in-use n s old held).0 (λ t. add_number n (codes "1") t k) ∙ adds n (codes "1") old v s k (in-use n s old held).1 sum short

incr-does-by : (d : ℕ) (n by old v : List ℕ) (s : State) (k : Then) → value_in_use n s ≡ Some old → increased old by ≡ Ok v → length v ≤ 1048576
    → known_command (evaluate d) (Some (VariableBuiltin Increase)) (codes "incr") (n ∷ by ∷ []) s k ≡ k Done v (assigned n v s)
unfolding do_incr
incr-does-by d n by old v s k held sum short =
    (in-use n s old held).0 (λ t. add_number n by t k) ∙ adds n by old v s k (in-use n s old held).1 sum short

-- the steps of two words, and of three
two-in : (steps : List Substitution) (a b : Substitution) → HasWord steps 0 a → HasWord steps 2 b → length steps ≡ 4 → steps ≡ a ∷ WordEnds ∷ b ∷ WordEnds ∷ []
two-in [] a b h g l = absurd (omega (arith, l))
two-in (p ∷ []) a b h g l = absurd (omega (arith, l))
two-in (p ∷ q ∷ []) a b h g l = absurd (omega (arith, l))
two-in (p ∷ q ∷ r ∷ []) a b h g l = absurd (omega (arith, l))
two-in (p ∷ q ∷ r ∷ t ∷ []) a b h g l = h ∙ ap (λ xs. a ∷ WordEnds ∷ xs) g
two-in (p ∷ q ∷ r ∷ t ∷ u ∷ us) a b h g l = absurd (omega (arith, l))

three-in : (steps : List Substitution) (a b x : Substitution) → HasWord steps 0 a → HasWord steps 2 b → HasWord steps 4 x → length steps ≡ 6
    → steps ≡ a ∷ WordEnds ∷ b ∷ WordEnds ∷ x ∷ WordEnds ∷ []
three-in [] a b x h g f l = absurd (omega (arith, l))
three-in (p ∷ []) a b x h g f l = absurd (omega (arith, l))
three-in (p ∷ q ∷ []) a b x h g f l = absurd (omega (arith, l))
three-in (p ∷ q ∷ r ∷ []) a b x h g f l = absurd (omega (arith, l))
three-in (p ∷ q ∷ r ∷ t ∷ []) a b x h g f l = absurd (omega (arith, l))
three-in (p ∷ q ∷ r ∷ t ∷ u ∷ []) a b x h g f l = absurd (omega (arith, l))
three-in (p ∷ q ∷ r ∷ t ∷ u ∷ w ∷ []) a b x h g f l = h ∙ ap (λ xs. a ∷ WordEnds ∷ xs) (g ∙ ap (λ xs. b ∷ WordEnds ∷ xs) f)
three-in (p ∷ q ∷ r ∷ t ∷ u ∷ w ∷ y ∷ ys) a b x h g f l = absurd (omega (arith, l))

pub set-sets : (s : State) (steps : List Substitution) (n : List ℕ) → length n ≤ 1048576 → is_to_begin n s ≡ false → HasWord steps 0 (Literal (codes "set"))
    → HasWord steps 2 (Literal n) → length steps ≡ 6 → names.get s.procedures (codes "set") ≡ None
    → (v : List ℕ) → HasText steps 4 s v → length v ≤ 1048576 → Sets steps s n v
set-sets s steps n long free h g l none v t short = λ d k.
    ap (λ xs. gather (evaluate d) (command (evaluate d)) [] [] [] xs s k) (three-in steps (Literal (codes "set")) (Literal n) t.0 h g t.1.0 l)
    ∙ three-words d (command (evaluate d)) s k (codes "set") n (lit≤ tt) long t.0 v t.1.1 short
    ∙ command-known d (codes "set" ∷ n ∷ v ∷ []) (codes "set") (n ∷ v ∷ []) s k refl none
    ∙ ap (λ o. known_command (evaluate d) o (codes "set") (n ∷ v ∷ []) s k) (set-usable s.on_board)
    ∙ set-does d n v s k free short

module _ (s : State) (steps : List Substitution) (n : List ℕ) (long : length n ≤ 1048576) (old : List ℕ) (held : value_in_use n s ≡ Some old) where
  pub incr-sets : HasWord steps 0 (Literal (codes "incr")) → HasWord steps 2 (Literal n) → length steps ≡ 4 → names.get s.procedures (codes "incr") ≡ None
      → (v : List ℕ) → increased old (codes "1") ≡ Ok v → length v ≤ 1048576 → Sets steps s n v
  incr-sets h g l none v sum short = λ d k.
      ap (λ xs. gather (evaluate d) (command (evaluate d)) [] [] [] xs s k) (two-in steps (Literal (codes "incr")) (Literal n) h g l)
      ∙ two-words d (command (evaluate d)) s k (codes "incr") n (lit≤ tt) long
      ∙ command-known d (codes "incr" ∷ n ∷ []) (codes "incr") (n ∷ []) s k refl none
      ∙ ap (λ o. known_command (evaluate d) o (codes "incr") (n ∷ []) s k) (incr-usable s.on_board)
      ∙ incr-does d n old v s k held sum short

  pub incr-sets-by : HasWord steps 0 (Literal (codes "incr")) → HasWord steps 2 (Literal n) → length steps ≡ 6 → names.get s.procedures (codes "incr") ≡ None
      → (by : List ℕ) → HasText steps 4 s by → length by ≤ 1048576 → (v : List ℕ) → increased old by ≡ Ok v → length v ≤ 1048576 → Sets steps s n v
  incr-sets-by h g l none by t small v sum short = λ d k.
      ap (λ xs. gather (evaluate d) (command (evaluate d)) [] [] [] xs s k) (three-in steps (Literal (codes "incr")) (Literal n) t.0 h g t.1.0 l)
      ∙ three-words d (command (evaluate d)) s k (codes "incr") n (lit≤ tt) long t.0 by t.1.1 small
      ∙ command-known d (codes "incr" ∷ n ∷ by ∷ []) (codes "incr") (n ∷ by ∷ []) s k refl none
      ∙ ap (λ o. known_command (evaluate d) o (codes "incr") (n ∷ by ∷ []) s k) (incr-usable s.on_board)
      ∙ incr-does-by d n by old v s k held sum short

-- `expr` of a text whose code comes to a value
expr-usable : (b : Bool) → usable b (builtin_of (codes "expr")) ≡ Some (ChoiceBuiltin Expr)
unfolding builtin_of
expr-usable true = refl
expr-usable false = refl

expr-does : (d : ℕ) (text v : List ℕ) (o : Option (List Instruction)) (c : Calculation) (s : State) (k : Then) → length text ≤ 1048576 → o ≡ code_in (tree_in text)
    → o ≡ Some c.left → c ≡ record { values = []; passed = 0; left = c.left; depth = d } → ((k : Then) → calculating c s k ≡ k Done v s)
    → known_command (evaluate d) (Some (ChoiceBuiltin Expr)) (codes "expr") (text ∷ []) s k ≡ k Done (in_decimal v) s
expr-does d text v o c s k short code begun first value =
    let whole : text ++ [] ≡ text = append-nil text in
    expr-short (evaluate d) (text ∷ []) text [] refl s k (rw whole short)
    ∙ ap (λ t. calculate (evaluate d) t s (written k)) whole
    ∙ sym (begun-calculates c o text d s (written k) code begun first)
    ∙ value (written k)

pub expr-settles : (d : ℕ) (steps : List Substitution) (v : List ℕ) (o : Option (List Instruction)) (c : Calculation) (s : State) → HasCode steps o
    → names.get s.procedures (codes "expr") ≡ None → o ≡ Some c.left → c ≡ record { values = []; passed = 0; left = c.left; depth = d }
    → ((k : Then) → calculating c s k ≡ k Done v s) → Settles d steps s (in_decimal v) s
expr-settles d steps v o c s h none begun first value = λ k.
    let text : List ℕ = h.0 in
    let short : length text ≤ 1048576 = h.1.0.3 in
    ap (λ xs. gather (evaluate d) (command (evaluate d)) [] [] [] xs s k) (two-in steps (Literal (codes "expr")) (Literal text) h.1.0.0 h.1.0.1 h.1.0.2)
    ∙ two-words d (command (evaluate d)) s k (codes "expr") text (lit≤ tt) short
    ∙ command-known d (codes "expr" ∷ text ∷ []) (codes "expr") (text ∷ []) s k refl none
    ∙ ap (λ b. known_command (evaluate d) b (codes "expr") (text ∷ []) s k) (expr-usable s.on_board)
    ∙ expr-does d text v o c s k short h.1.1 begun first value

-- what holds of a value that is there
pub if-both : {A : Type 0} (o : Option A) (P Q R : A → Type 0) → ((a : A) → P a → Q a → R a) → IfSome o P → IfSome o Q → IfSome o R
if-both None P Q R f p q = p
if-both (Some a) P Q R f p q = f a p q

pub if-some : {A : Type 0} (o : Option A) (P Q : A → Type 0) → ((a : A) → P a → Q a) → IfSome o P → IfSome o Q
if-some None P Q f p = p
if-some (Some a) P Q f p = f a p

-- what is all of a value is that of an equal one
pub settles-as : (o : Option (List ℕ)) (w v : List ℕ) (d : ℕ) (code : Option (List Instruction)) (s : State) → IfSome o (λ x. x ≡ w) → w ≡ v
    → ((steps : List Substitution) → HasCode steps code → Settles d steps s v s) → IfSome o (λ x. (steps : List Substitution) → HasCode steps code → Settles d steps s x s)
settles-as None w v d code s e f h = e
settles-as (Some x) w v d code s e f h = λ steps c. subst (λ u. Settles d steps s u s) (sym f ∙ sym e) (h steps c)

-- the next command has run where it stands
pub settles-next : (d : ℕ) (cs : List Command) (at : ℕ) (steps : List Substitution) (s t : State) (v w : List ℕ) → HasSteps cs at steps → s.steps < 100000
    → Settles d steps (stepped s) w t → GoesOnAs d (drop at cs) v s (drop (at + 1) cs) w t
unfolding sequence
settles-next d cs at steps s t v w h left settles = λ k.
    let then : Then = if_done (λ u t'. sequence (evaluate d) (drop (at + 1) cs) u t' k) k in
    sym
    (ap (λ xs. sequence (evaluate d) xs v s k) h.1.0
    ∙ tick-step s (λ u. words_made (evaluate d) (command (evaluate d)) h.0 u then) left
    ∙ sym (words-made (evaluate d) (command (evaluate d)) then h.0 (stepped s))
    ∙ ap (λ xs. gather (evaluate d) (command (evaluate d)) [] [] [] xs (stepped s) then) (sym h.1.1)
    ∙ settles then)

pub asks-assigned : (s : State) (n v : List ℕ) → AsksNothing s (assigned n v s)
unfolding assigned
asks-assigned s n v = (refl, refl, omega arith)

pub asks-stepped : (s t : State) → AsksNothing (stepped s) t → AsksNothing s t
unfolding stepped
asks-stepped s t h = (h.0, h.1, omega (arith, h.2))

pub asks-step : (s : State) → AsksNothing s (stepped s)
unfolding stepped
asks-step s = (refl, refl, omega arith)

pub asks-same : (s t : State) → t ≡ s → AsksNothing s t
asks-same s t e = rw e (refl, refl, omega arith)

-- steps that were taken weigh less
pub weight-settled : (o : Control) (fs : List Frame) (s t : State) → AsksNothing s t → weight o t fs ≤ weight o s fs
unfolding weight
weight-settled o fs s t h = rw h.1 (omega (arith, h.2))

-- a text, whose commands have run as far as they do where they stand
pub text-settled : (d : ℕ) (text : List ℕ) (cs ds : List Command) (u v : List ℕ) (s t : State) (k : Then) → d ≢ 0 → cs ≡ commands_at text 0 → u ≡ [] → GoesOnAs (d - 1) cs u s ds v t
    → evaluate d text s k ≡ sequence (evaluate (d - 1)) ds v t k
text-settled d text cs ds u v s t k n e f g =
    sym (evaluate-inside d text s k n)
    ∙ ap (λ xs. sequence (evaluate (d - 1)) xs [] s k) (sym e)
    ∙ ap (λ x. sequence (evaluate (d - 1)) cs x s k) (sym f)
    ∙ sym (g k)

-- an end weighs little
pub weight-ended : (s : State) (c : Code) (v : List ℕ) (fs : List Frame) → weight (Ended c v) s fs ≡ weight Go s fs + 1
unfolding weight
weight-ended s c v fs = omega arith

-- commands that are left of all have gone on as far as they do where they stand
pub left-settled : (d : ℕ) (cs all : List Command) (first at : ℕ) (x u v : List ℕ) (s t : State) (k : Then) → cs ≡ drop first all → u ≡ x
    → GoesOnAs d (drop first all) u s (drop at all) v t → sequence (evaluate d) cs x s k ≡ sequence (evaluate d) (drop at all) v t k
left-settled d cs all first at x u v s t k e f g =
    ap (λ xs. sequence (evaluate d) xs x s k) e ∙ ap (λ y. sequence (evaluate d) (drop first all) y s k) (sym f) ∙ sym (g k)

-- commands that are left go on behind any value
pub behind-any : (d : ℕ) (cs : List Command) (at : ℕ) (v w : List ℕ) (s : State) (k : Then) → at < length cs
    → sequence (evaluate d) (drop at cs) v s k ≡ sequence (evaluate d) (drop at cs) w s k
unfolding sequence
behind-any d [] at v w s k l = absurd (omega (arith, l))
behind-any d (Words ws ∷ cs) zero v w s k l = refl
behind-any d (Unreadable fault ∷ cs) zero v w s k l = refl
behind-any d (c ∷ cs) (suc n) v w s k l = behind-any d cs n v w s k (omega (arith, l))

-- the frame of a loop whose third script runs
pub next-back : (r : Repetition) (fs : List Frame) → all_back (Repeating (record r { stage = Next }) ∷ fs) ≡ repeating r Next (all_back fs)
unfolding all_back back
next-back r fs = refl

-- the frame of a loop whose body runs
pub body-back : (r : Repetition) (fs : List Frame) → r.stage ≡ Body → all_back (Repeating r ∷ fs) ≡ repeating r Body (all_back fs)
unfolding all_back back
body-back r fs e = ap (λ stage. repeating r stage (all_back fs)) e

-- the only command of a list
only-computes : (d : ℕ) (cs : List Command) (steps : List Substitution) (s : State) (v : List ℕ) → HasSteps cs 0 steps → length cs ≡ 1 → s.steps < 100000
    → Settles d steps (stepped s) v (stepped s) → IsOnly d cs s v
only-computes d cs steps s v h one left settles = λ k.
    let none : drop (0 + 1) cs ≡ [] = drop_all (0 + 1) cs (omega (arith, one)) in
    sym (settles-next d cs 0 steps s (stepped s) [] v h left settles k) ∙ sequence-done d (drop (0 + 1) cs) v (stepped s) k none

pub yields : (d : ℕ) (code : Option (List Instruction)) (s : State) (v : List ℕ) → s.steps < 100000
    → ((steps : List Substitution) → HasCode steps code → Settles d steps (stepped s) v (stepped s)) → Yields d code s v
yields d code s v left settles = λ ws h.
    only-computes d (Words ws ∷ []) (substitutions ws) s v (ws, (refl, refl)) refl left (settles (substitutions ws) h)

pub only-yields : (d : ℕ) (cs : List Command) (steps : List Substitution) (code : Option (List Instruction)) (s : State) (v : List ℕ) → HasSteps cs 0 steps → length cs ≡ 1
    → HasCode steps code → Yields d code s v → IsOnly d cs s v
only-yields d cs steps code s v h one coded yields =
    let none : drop (0 + 1) cs ≡ [] = drop_all (0 + 1) cs (omega (arith, one)) in
    let all : cs ≡ Words h.0 ∷ [] = h.1.0 ∙ ap (λ xs. Words h.0 ∷ xs) none in
    subst (λ xs. IsOnly d xs s v) (sym all) (yields h.0 (subst (λ xs. HasCode xs code) h.1.1 coded))

pub text-computes : (d : ℕ) (text : List ℕ) (cs : List Command) (s : State) (v : List ℕ) → d ≢ 0 → cs ≡ commands_at text 0 → IsOnly (d - 1) cs s v → ComesBy d text s v
text-computes d text cs s v n e only = λ k.
    sym (evaluate-inside d text s k n) ∙ ap (λ xs. sequence (evaluate (d - 1)) xs [] s k) (sym e) ∙ only k

pub coded-computes : (d : ℕ) (script : List ℕ) (code : Option (List Instruction)) (s : State) (v : List ℕ) → d ≢ 0 → IsCoded script code → Yields (d - 1) code s v
    → ComesBy d script s v
coded-computes d script code s v n h yields = text-computes d script (Words h.0 ∷ []) s v n (sym h.1.0) (yields h.0 h.1.1)

-- `set` of a variable to the value of a script
pub set-computes : (d : ℕ) (s : State) (steps : List Substitution) (n t v : List ℕ) → HasWord steps 0 (Literal (codes "set")) → HasWord steps 2 (Literal n)
    → HasWord steps 4 (Script t) → length steps ≡ 6 → length n ≤ 1048576 → names.get s.procedures (codes "set") ≡ None → is_to_begin n s ≡ false
    → ComesBy d t s v → length v ≤ 1048576 → Settles d steps s v (assigned n v (stepped s))
set-computes d s steps n t v h g f l long none free comes short = λ k.
    let act : Act = command (evaluate d) in
    let name : List ℕ = codes "set" in
    ap (λ xs. gather (evaluate d) act [] [] [] xs s k) (three-in steps (Literal name) (Literal n) (Script t) h g f l)
    ∙ sym (word-taken d act [] [] (Literal n ∷ WordEnds ∷ Script t ∷ WordEnds ∷ []) s k (Literal name) name refl (lit≤ tt))
    ∙ sym (word-taken d act (name ∷ []) [] (Script t ∷ WordEnds ∷ []) s k (Literal n) n refl long)
    ∙ gather-script d act (name ∷ n ∷ []) [] [] (Script t ∷ WordEnds ∷ []) s k t (WordEnds ∷ []) refl
    ∙ comes (if_done (λ u s'. longer [] u s' (λ w. gather (evaluate d) act (name ∷ n ∷ []) [] w (WordEnds ∷ []) s' k)) k)
    ∙ within-short (0 + length v) (stepped s) (gather (evaluate d) act (name ∷ n ∷ []) [] v (WordEnds ∷ []) (stepped s) k) (omega (arith, short))
    ∙ gather-word d act (name ∷ n ∷ []) [] v (WordEnds ∷ []) (stepped s) k [] refl
    ∙ gather-none d act (name ∷ n ∷ v ∷ []) [] [] [] (stepped s) k refl
    ∙ command-known d (name ∷ n ∷ v ∷ []) name (n ∷ v ∷ []) (stepped s) k refl (procedures-stepped s name ∙ none)
    ∙ ap (λ o. known_command (evaluate d) o name (n ∷ v ∷ []) (stepped s) k) (set-usable (stepped s).on_board)
    ∙ set-does d n v (stepped s) k (free-stepped s n free) short

-- `return` of the value of a script
return-usable : (b : Bool) → usable b (builtin_of (codes "return")) ≡ Some (ImmediateBuiltin Return)
unfolding builtin_of
return-usable true = refl
return-usable false = refl

return-does : (d : ℕ) (v : List ℕ) (s : State) (k : Then) → known_command (evaluate d) (Some (ImmediateBuiltin Return)) (codes "return") (v ∷ []) s k ≡ k Returned v s
unfolding do_return
return-does d v s k = refl

pub return-computes : (d : ℕ) (s : State) (steps : List Substitution) (t v : List ℕ) → HasWord steps 0 (Literal (codes "return")) → HasWord steps 2 (Script t) → length steps ≡ 4
    → names.get s.procedures (codes "return") ≡ None → ComesBy d t s v → length v ≤ 1048576 → (k : Then) → begins steps d s k ≡ k Returned v (stepped s)
return-computes d s steps t v h g l none comes short = λ k.
    let act : Act = command (evaluate d) in
    let name : List ℕ = codes "return" in
    ap (λ xs. gather (evaluate d) act [] [] [] xs s k) (two-in steps (Literal name) (Script t) h g l)
    ∙ sym (word-taken d act [] [] (Script t ∷ WordEnds ∷ []) s k (Literal name) name refl (lit≤ tt))
    ∙ gather-script d act (name ∷ []) [] [] (Script t ∷ WordEnds ∷ []) s k t (WordEnds ∷ []) refl
    ∙ comes (if_done (λ u s'. longer [] u s' (λ w. gather (evaluate d) act (name ∷ []) [] w (WordEnds ∷ []) s' k)) k)
    ∙ within-short (0 + length v) (stepped s) (gather (evaluate d) act (name ∷ []) [] v (WordEnds ∷ []) (stepped s) k) (omega (arith, short))
    ∙ gather-word d act (name ∷ []) [] v (WordEnds ∷ []) (stepped s) k [] refl
    ∙ gather-none d act (name ∷ v ∷ []) [] [] [] (stepped s) k refl
    ∙ command-known d (name ∷ v ∷ []) name (v ∷ []) (stepped s) k refl (procedures-stepped s name ∙ none)
    ∙ ap (λ o. known_command (evaluate d) o name (v ∷ []) (stepped s) k) (return-usable (stepped s).on_board)
    ∙ return-does d v (stepped s) k

pub returns-next : (d : ℕ) (cs : List Command) (at : ℕ) (steps : List Substitution) (s t : State) (w : List ℕ) → HasSteps cs at steps → s.steps < 100000
    → ((k : Then) → begins steps d (stepped s) k ≡ k Returned w t) → Returns d (drop at cs) s w t
unfolding sequence
returns-next d cs at steps s t w h left returns = λ v k.
    let then : Then = if_done (λ u t'. sequence (evaluate d) (drop (at + 1) cs) u t' k) k in
    ap (λ xs. sequence (evaluate d) xs v s k) h.1.0
    ∙ tick-step s (λ u. words_made (evaluate d) (command (evaluate d)) h.0 u then) left
    ∙ sym (words-made (evaluate d) (command (evaluate d)) then h.0 (stepped s))
    ∙ ap (λ xs. gather (evaluate d) (command (evaluate d)) [] [] [] xs (stepped s) then) (sym h.1.1)
    ∙ returns then
