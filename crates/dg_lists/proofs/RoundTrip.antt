-- A canonical text is read as its list.
use Rattle.std.specs.Prelude.{◌≡◌, ◌≢◌, ℕ, zero, suc, ◌+◌, ◌-◌, List, [], ◌∷◌, ◌++◌, refl, Ok, Err, Result, Bool, true, false, Option, None, Some, not, ◌&&◌, ◌==◌, cond, nat_lt, ◌⊎◌, MatchResult}
use Rattle.std.proofs.Common.{◌∙◌, ap, sym, arith, subst, inl, inr, append_assoc}
use Rattle.std.proofs.lemmas.List.{append-nil}
use Rattle.std.proofs.lemmas.Bool.{eqb-true, lt-ltb}
use Rattle.dg_lists.specs.declared.fault.WordFault.{WordFault}
use Rattle.dg_lists.specs.declared.fault.WordFault.TheVariants.{Memory}
use Rattle.dg_lists.specs.declared.kinds.Class.{Class}
use Rattle.dg_lists.specs.declared.kinds.Class.TheVariants as class
use Rattle.dg_lists.specs.declared.kinds.Effect.TheVariants as effect
use Rattle.dg_lists.specs.declared.kinds.Delimiter.TheVariants as delimiter
use Rattle.dg_lists.specs.declared.kinds.Mode.{Mode}
use Rattle.dg_lists.specs.declared.kinds.Mode.TheVariants.{Gap, In, Pair, Braced, BracedPair, Behind}
use Rattle.dg_lists.specs.declared.kinds.Target.TheVariants as target
use Rattle.dg_lists.specs.declared.kinds.Context.TheVariants.{Bare}
use Rattle.dg_lists.specs.declared.kinds.Transition.{Transition}
use Rattle.dg_lists.specs.Classes.{class_of, is_name}
use Rattle.dg_lists.specs.Transitions.{does, escaped, goes, puts}
use Rattle.dg_lists.specs.Elements.{Listing, elements_of, list_effect, list_ends, list_follow, list_onward, list_read, list_step, list_stop, list_stopped, list_transition, without_place}
use Rattle.dg_lists.specs.Canonical.{text_of_list}
use Rattle.dg_bytes.specs.Canonical.{hash_covered, onto}
use Rattle.dg_lists.proofs.ByClass.{begins_with_hash, brace_step, element_text, escaped_byte, escaped_text, further_text, is_hash, is_plain, is_special, may_be_braced, text_by, text_by_class}

-- read from s on, t leaves n, whatever follows
record Leads (s : Listing) (t : List ℕ) (n : Listing) : Type 0 where
  on : (rest : List ℕ) (p : ℕ) → (q : ℕ) × (list_read (t ++ rest) s p ≡ list_read rest n q)

lead_none : (s : Listing) → Leads s [] s
lead_none s = record { on = λ rest p. (p, refl) }

lead_one : (s n : Listing) (b : ℕ) → list_step s b ≡ Ok n → Leads s (b ∷ []) n
unfolding list_read
lead_one s n b e = record { on = λ rest p. (p + 1, ap (λ r. list_onward r p (λ m. list_read rest m (p + 1))) e) }

lead_both : (s n m : Listing) (t u : List ℕ) → Leads s t n → Leads n u m → Leads s (t ++ u) m
lead_both s n m t u f g = record {
  on = λ rest p.
      let a = f.on (u ++ rest) p in
      let b = g.on rest a.0 in
      (b.0, ap (λ x. list_read x s p) (append_assoc t u rest) ∙ a.1 ∙ b.1);
}

step_by : (s : Listing) (b : ℕ) (t : Transition) → list_transition (nat_lt 0 s.depth) s.mode (class_of b) b ≡ t → list_step s b ≡ list_follow t.next (list_effect t.second (list_effect t.first s))
unfolding list_step
step_by s b t e = ap (λ (x : Transition). list_follow x.next (list_effect x.second (list_effect x.first s))) e

abbrev at : List (List ℕ) → Mode → ℕ → List ℕ → Listing
at xs m d t = record { mode = m; depth = d; elements = xs; text = t }

-- an element's text begins, or goes on
abbrev mode_at : Bool → Mode
mode_at true = Gap
mode_at false = In Bare

plain_transition : (deep g : Bool) (c : Class) (b : ℕ) → is_special c ≡ false → list_transition deep (mode_at g) c b ≡ puts b (In Bare)
unfolding list_transition
plain_transition deep g class.Blank b e = absurd cc
plain_transition deep g class.Newline b e = absurd cc
plain_transition deep g class.Quote b e = absurd cc
plain_transition deep g class.Open b e = absurd cc
plain_transition deep g class.Backslash b e = absurd cc
plain_transition deep true c b e = refl
plain_transition deep false c b e = refl

pair_transition : (deep g : Bool) → list_transition deep (mode_at g) class.Backslash 92 ≡ goes (Pair Bare)
unfolding list_transition
pair_transition deep true = refl
pair_transition deep false = refl

plain_one : (xs : List (List ℕ)) (g : Bool) (t : List ℕ) (b : ℕ) → is_special (class_of b) ≡ false → Leads (at xs (mode_at g) 0 t) (b ∷ []) (at xs (In Bare) 0 (t ++ b ∷ []))
plain_one xs g t b e = lead_one _ _ b (step_by (at xs (mode_at g) 0 t) b (puts b (In Bare)) (plain_transition (nat_lt 0 0) g (class_of b) b e))

backslash_one : (xs : List (List ℕ)) (g : Bool) (t : List ℕ) → Leads (at xs (mode_at g) 0 t) (92 ∷ []) (at xs (Pair Bare) 0 t)
unfolding class_of
backslash_one xs g t = lead_one _ _ 92 (step_by (at xs (mode_at g) 0 t) 92 (goes (Pair Bare)) (pair_transition (nat_lt 0 0) g))

escaped_transition : (deep : Bool) (c : Class) (b : ℕ) → c ≢ class.Newline → list_transition deep (Pair Bare) c b ≡ escaped Bare b
unfolding list_transition
escaped_transition deep class.Newline b n = absurd (n refl)
escaped_transition deep c b n = refl

-- which byte a class has
test : (P : Class → Type 0) (b n : ℕ) (c d : Class) → (b ≡ n → P c) → P d → P (cond (b == n) c d)
test P b n c d f g = tested (b == n) refl
  where
    tested : (x : Bool) → (b == n) ≡ x → P (cond x c d)
    tested true e = f (eqb-true b n e)
    tested false e = g

-- a special byte but the newline is what its pair writes
abbrev Writes : ℕ → Class → Type 0
Writes b c = is_special c ≡ true → c ≢ class.Newline → escaped Bare b ≡ puts b (In Bare)

by_byte : (b n : ℕ) → escaped Bare n ≡ puts n (In Bare) → b ≡ n → escaped Bare b ≡ puts b (In Bare)
by_byte b n h e = subst (λ x. escaped Bare x ≡ puts x (In Bare)) (sym e) h

named : (b : ℕ) (x : Bool) → Writes b (cond x class.Name class.Plain)
named b true = λ s n. absurd cc
named b false = λ s n. absurd cc

writes : (b : ℕ) → Writes b (class_of b)
unfolding class_of
writes b =
    test (Writes b) b 10 _ _ (λ e s n. absurd (n refl)) (test (Writes b) b 59 _ _ (λ e s n. by_byte b 59 refl e) (test (Writes b) b 32 _ _ (λ e s n. by_byte b 32 refl e)
    (test (Writes b) b 9 _ _ (λ e s n. by_byte b 9 refl e) (test (Writes b) b 11 _ _ (λ e s n. by_byte b 11 refl e) (test (Writes b) b 12 _ _ (λ e s n. by_byte b 12 refl e)
    (test (Writes b) b 13 _ _ (λ e s n. by_byte b 13 refl e) (test (Writes b) b 35 _ _ (λ e s n. by_byte b 35 refl e) (test (Writes b) b 34 _ _ (λ e s n. by_byte b 34 refl e)
    (test (Writes b) b 123 _ _ (λ e s n. by_byte b 123 refl e) (test (Writes b) b 125 _ _ (λ e s n. by_byte b 125 refl e) (test (Writes b) b 91 _ _ (λ e s n. by_byte b 91 refl e)
    (test (Writes b) b 93 _ _ (λ e s n. by_byte b 93 refl e) (test (Writes b) b 40 _ _ (λ e s n. by_byte b 40 refl e) (test (Writes b) b 41 _ _ (λ e s n. by_byte b 41 refl e)
    (test (Writes b) b 92 _ _ (λ e s n. by_byte b 92 refl e) (test (Writes b) b 36 _ _ (λ e s n. by_byte b 36 refl e) (test (Writes b) b 58 _ _ (λ e s n. by_byte b 58 refl e)
    (test (Writes b) b 42 _ _ (λ e s n. by_byte b 42 refl e) (named b (is_name b))))))))))))))))))))

abbrev Newlines : ℕ → Class → Type 0
Newlines b c = c ≡ class.Newline → b ≡ 10

named_line : (b : ℕ) (x : Bool) → Newlines b (cond x class.Name class.Plain)
named_line b true = λ e. absurd cc
named_line b false = λ e. absurd cc

newline_is : (b : ℕ) → Newlines b (class_of b)
unfolding class_of
newline_is b =
    test (Newlines b) b 10 _ _ (λ e x. e) (test (Newlines b) b 59 _ _ (λ e x. absurd cc) (test (Newlines b) b 32 _ _ (λ e x. absurd cc) (test (Newlines b) b 9 _ _ (λ e x. absurd cc)
    (test (Newlines b) b 11 _ _ (λ e x. absurd cc) (test (Newlines b) b 12 _ _ (λ e x. absurd cc) (test (Newlines b) b 13 _ _ (λ e x. absurd cc) (test (Newlines b) b 35 _ _ (λ e x. absurd cc)
    (test (Newlines b) b 34 _ _ (λ e x. absurd cc) (test (Newlines b) b 123 _ _ (λ e x. absurd cc) (test (Newlines b) b 125 _ _ (λ e x. absurd cc) (test (Newlines b) b 91 _ _ (λ e x. absurd cc)
    (test (Newlines b) b 93 _ _ (λ e x. absurd cc) (test (Newlines b) b 40 _ _ (λ e x. absurd cc) (test (Newlines b) b 41 _ _ (λ e x. absurd cc) (test (Newlines b) b 92 _ _ (λ e x. absurd cc)
    (test (Newlines b) b 36 _ _ (λ e x. absurd cc) (test (Newlines b) b 58 _ _ (λ e x. absurd cc) (test (Newlines b) b 42 _ _ (λ e x. absurd cc) (named_line b (is_name b))))))))))))))))))))

pair_one : (xs : List (List ℕ)) (t : List ℕ) (b : ℕ) → is_special (class_of b) ≡ true → class_of b ≢ class.Newline → Leads (at xs (Pair Bare) 0 t) (b ∷ []) (at xs (In Bare) 0 (t ++ b ∷ []))
pair_one xs t b s n = lead_one _ _ b (step_by (at xs (Pair Bare) 0 t) b (puts b (In Bare)) (escaped_transition (nat_lt 0 0) (class_of b) b n ∙ writes b s n))

hash_one : (xs : List (List ℕ)) (t : List ℕ) → Leads (at xs (Pair Bare) 0 t) (35 ∷ []) (at xs (In Bare) 0 (t ++ 35 ∷ []))
unfolding class_of list_transition
hash_one xs t = lead_one _ _ 35 (step_by (at xs (Pair Bare) 0 t) 35 (puts 35 (In Bare)) refl)

line_one : (xs : List (List ℕ)) (t : List ℕ) → Leads (at xs (Pair Bare) 0 t) (110 ∷ []) (at xs (In Bare) 0 (t ++ 10 ∷ []))
unfolding class_of list_transition
line_one xs t = lead_one _ _ 110 (step_by (at xs (Pair Bare) 0 t) 110 (puts 10 (In Bare)) refl)

plain_pair : (xs : List (List ℕ)) (g : Bool) (t : List ℕ) (b : ℕ) (x : Bool) → is_special (class_of b) ≡ x → class_of b ≢ class.Newline →
    Leads (at xs (mode_at g) 0 t) (cond x (92 ∷ b ∷ []) (b ∷ [])) (at xs (In Bare) 0 (t ++ b ∷ []))
plain_pair xs g t b true e n = lead_both _ (at xs (Pair Bare) 0 t) _ (92 ∷ []) (b ∷ []) (backslash_one xs g t) (pair_one xs t b e n)
plain_pair xs g t b false e n = plain_one xs g t b e

escaped_one : (xs : List (List ℕ)) (g : Bool) (t : List ℕ) (b : ℕ) (c : Class) → class_of b ≡ c → Leads (at xs (mode_at g) 0 t) (escaped_byte c b) (at xs (In Bare) 0 (t ++ b ∷ []))
escaped_one xs g t b class.Newline e =
    subst (λ x. Leads (at xs (mode_at g) 0 t) (92 ∷ 110 ∷ []) (at xs (In Bare) 0 (t ++ x ∷ []))) (sym (newline_is b e))
    (lead_both _ (at xs (Pair Bare) 0 t) _ (92 ∷ []) (110 ∷ []) (backslash_one xs g t) (line_one xs t))
escaped_one xs g t b c e = plain_pair xs g t b (is_special c) (ap is_special e) (λ x. let y = sym e ∙ x in absurd cc)

escaped_leads : (xs : List (List ℕ)) (t bs : List ℕ) → Leads (at xs (In Bare) 0 t) (escaped_text bs) (at xs (In Bare) 0 (t ++ bs))
escaped_leads xs t [] = subst (λ x. Leads (at xs (In Bare) 0 t) [] (at xs (In Bare) 0 x)) (sym (append-nil t)) (lead_none _)
escaped_leads xs t (b ∷ bs) =
    subst (λ x. Leads (at xs (In Bare) 0 t) (escaped_text (b ∷ bs)) (at xs (In Bare) 0 x)) (append_assoc t (b ∷ []) bs)
    (lead_both _ (at xs (In Bare) 0 (t ++ b ∷ [])) _ (escaped_byte (class_of b) b) (escaped_text bs) (escaped_one xs false t b (class_of b) refl) (escaped_leads xs (t ++ b ∷ []) bs))

escaped_whole : (xs : List (List ℕ)) (b : ℕ) (bs : List ℕ) → Leads (at xs Gap 0 []) (escaped_text (b ∷ bs)) (at xs (In Bare) 0 (b ∷ bs))
escaped_whole xs b bs = lead_both _ (at xs (In Bare) 0 (b ∷ [])) _ (escaped_byte (class_of b) b) (escaped_text bs) (escaped_one xs true [] b (class_of b) refl) (escaped_leads xs (b ∷ []) bs)

and_left : (x y : Bool) → (x && y) ≡ true → x ≡ true
and_left true y e = refl
and_left false y e = absurd cc

and_right : (x y : Bool) → (x && y) ≡ true → y ≡ true
and_right true y e = e
and_right false y e = absurd cc

not_true : (x : Bool) → not x ≡ true → x ≡ false
not_true true e = absurd cc
not_true false e = refl

plain_leads : (xs : List (List ℕ)) (t bs : List ℕ) → is_plain bs ≡ true → Leads (at xs (In Bare) 0 t) bs (at xs (In Bare) 0 (t ++ bs))
plain_leads xs t [] e = subst (λ x. Leads (at xs (In Bare) 0 t) [] (at xs (In Bare) 0 x)) (sym (append-nil t)) (lead_none _)
plain_leads xs t (b ∷ bs) e =
    subst (λ x. Leads (at xs (In Bare) 0 t) (b ∷ bs) (at xs (In Bare) 0 x)) (append_assoc t (b ∷ []) bs)
    (lead_both _ (at xs (In Bare) 0 (t ++ b ∷ [])) _ (b ∷ []) bs (plain_one xs false t b (not_true _ (and_left _ _ e))) (plain_leads xs (t ++ b ∷ []) bs (and_right _ _ e)))

plain_whole : (xs : List (List ℕ)) (b : ℕ) (bs : List ℕ) → is_plain (b ∷ bs) ≡ true → Leads (at xs Gap 0 []) (b ∷ bs) (at xs (In Bare) 0 (b ∷ bs))
plain_whole xs b bs e = lead_both _ (at xs (In Bare) 0 (b ∷ [])) _ (b ∷ []) bs (plain_one xs true [] b (not_true _ (and_left _ _ e))) (plain_leads xs (b ∷ []) bs (and_right _ _ e))

-- inside braces
abbrev braced_at : Bool → Mode
braced_at true = BracedPair
braced_at false = Braced

abbrev Goes_to : List (List ℕ) → Result Listing WordFault → Option (Bool × ℕ) → List ℕ → Type 0
Goes_to xs r None t = Unit {0}
Goes_to xs r (Some x) t = r ≡ Ok (at xs (braced_at x.0) x.1 t)

braced_transition : (xs : List (List ℕ)) (q : Bool) (d : ℕ) (c : Class) (b : ℕ) (t : List ℕ) (transition : Transition) → list_transition (nat_lt 0 d) (braced_at q) c b ≡ transition →
    Goes_to xs (list_follow transition.next (list_effect transition.second (list_effect transition.first (at xs (braced_at q) d t)))) (brace_step q d c) (t ++ b ∷ [])
unfolding list_transition
braced_transition xs true d class.Newline b t transition e = tt
braced_transition xs true d c b t transition e = subst (λ (x : Transition). list_follow x.next (list_effect x.second (list_effect x.first (at xs BracedPair d t))) ≡ Ok (at xs Braced d (t ++ b ∷ []))) e refl
braced_transition xs false zero class.Close b t transition e = tt
braced_transition xs false (suc d) class.Close b t transition e =
    let shallow : list_transition true Braced class.Close b ≡ transition = subst (λ x. list_transition x Braced class.Close b ≡ transition) (lt-ltb 0 (suc d) (omega arith)) e in
    let less : suc d - 1 ≡ d = omega arith in
    subst (λ (x : Transition). list_follow x.next (list_effect x.second (list_effect x.first (at xs Braced (suc d) t))) ≡ Ok (at xs Braced d (t ++ b ∷ []))) shallow
    (ap (λ n. Ok (at xs Braced n (t ++ b ∷ []))) less)
braced_transition xs false zero class.Backslash b t transition e = subst (λ (x : Transition). list_follow x.next (list_effect x.second (list_effect x.first (at xs Braced zero t))) ≡ Ok (at xs BracedPair zero (t ++ b ∷ []))) e refl
braced_transition xs false (suc d) class.Backslash b t transition e = subst (λ (x : Transition). list_follow x.next (list_effect x.second (list_effect x.first (at xs Braced (suc d) t))) ≡ Ok (at xs BracedPair (suc d) (t ++ b ∷ []))) e refl
braced_transition xs false zero class.Open b t transition e = subst (λ (x : Transition). list_follow x.next (list_effect x.second (list_effect x.first (at xs Braced zero t))) ≡ Ok (at xs Braced (zero + 1) (t ++ b ∷ []))) e refl
braced_transition xs false (suc d) class.Open b t transition e = subst (λ (x : Transition). list_follow x.next (list_effect x.second (list_effect x.first (at xs Braced (suc d) t))) ≡ Ok (at xs Braced (suc d + 1) (t ++ b ∷ []))) e refl
braced_transition xs false zero c b t transition e = subst (λ (x : Transition). list_follow x.next (list_effect x.second (list_effect x.first (at xs Braced zero t))) ≡ Ok (at xs Braced zero (t ++ b ∷ []))) e refl
braced_transition xs false (suc d) c b t transition e = subst (λ (x : Transition). list_follow x.next (list_effect x.second (list_effect x.first (at xs Braced (suc d) t))) ≡ Ok (at xs Braced (suc d) (t ++ b ∷ []))) e refl

braced_step : (xs : List (List ℕ)) (q : Bool) (d : ℕ) (b : ℕ) (t : List ℕ) → Goes_to xs (list_step (at xs (braced_at q) d t) b) (brace_step q d (class_of b)) (t ++ b ∷ [])
braced_step xs q d b t =
    subst (λ r. Goes_to xs r (brace_step q d (class_of b)) (t ++ b ∷ [])) (sym (step_by (at xs (braced_at q) d t) b _ refl))
    (braced_transition xs q d (class_of b) b t (list_transition (nat_lt 0 d) (braced_at q) (class_of b) b) refl)

brace_closes : (xs : List (List ℕ)) (t : List ℕ) → Leads (at xs Braced 0 t) (125 ∷ []) (at (xs ++ t ∷ []) (Behind delimiter.Brace) 0 [])
unfolding class_of list_transition
brace_closes xs t = lead_one _ _ 125 (step_by (at xs Braced 0 t) 125 (does effect.Word (target.To (Behind delimiter.Brace))) refl)

closes_end : (xs : List (List ℕ)) (q : Bool) (d : ℕ) (t : List ℕ) → (not q && (d == 0)) ≡ true → Leads (at xs (braced_at q) d t) (125 ∷ []) (at (xs ++ t ∷ []) (Behind delimiter.Brace) 0 [])
closes_end xs true d t e = absurd cc
closes_end xs false d t e = subst (λ n. Leads (at xs Braced n t) (125 ∷ []) (at (xs ++ t ∷ []) (Behind delimiter.Brace) 0 [])) (sym (eqb-true d 0 e)) (brace_closes xs t)

braced_more : (xs : List (List ℕ)) (s : Listing) (b : ℕ) (bs t : List ℕ) (o : Option (Bool × ℕ)) → Goes_to xs (list_step s b) o (t ++ b ∷ []) → onto o (λ q e. may_be_braced q e bs) ≡ true →
    ((q : Bool) (d : ℕ) → may_be_braced q d bs ≡ true → Leads (at xs (braced_at q) d (t ++ b ∷ [])) (bs ++ 125 ∷ []) (at (xs ++ ((t ++ b ∷ []) ++ bs) ∷ []) (Behind delimiter.Brace) 0 [])) →
    Leads s (b ∷ bs ++ 125 ∷ []) (at (xs ++ (t ++ b ∷ bs) ∷ []) (Behind delimiter.Brace) 0 [])
braced_more xs s b bs t None g e ih = absurd cc
braced_more xs s b bs t (Some x) g e ih =
    subst (λ y. Leads s (b ∷ bs ++ 125 ∷ []) (at (xs ++ y ∷ []) (Behind delimiter.Brace) 0 [])) (append_assoc t (b ∷ []) bs)
    (lead_both s (at xs (braced_at x.0) x.1 (t ++ b ∷ [])) _ (b ∷ []) (bs ++ 125 ∷ []) (lead_one s _ b g) (ih x.0 x.1 e))

braced_leads : (xs : List (List ℕ)) (q : Bool) (d : ℕ) (t bs : List ℕ) → may_be_braced q d bs ≡ true → Leads (at xs (braced_at q) d t) (bs ++ 125 ∷ []) (at (xs ++ (t ++ bs) ∷ []) (Behind delimiter.Brace) 0 [])
braced_leads xs q d t [] e = subst (λ y. Leads (at xs (braced_at q) d t) (125 ∷ []) (at (xs ++ y ∷ []) (Behind delimiter.Brace) 0 [])) (sym (append-nil t)) (closes_end xs q d t e)
braced_leads xs q d t (b ∷ bs) e =
    braced_more xs (at xs (braced_at q) d t) b bs t (brace_step q d (class_of b)) (braced_step xs q d b t) e (λ r n h. braced_leads xs r n (t ++ b ∷ []) bs h)

brace_opens : (xs : List (List ℕ)) → Leads (at xs Gap 0 []) (123 ∷ []) (at xs Braced 0 [])
unfolding class_of list_transition
brace_opens xs = lead_one _ _ 123 (step_by (at xs Gap 0 []) 123 (goes Braced) refl)

braced_whole : (xs : List (List ℕ)) (bs : List ℕ) → may_be_braced false 0 bs ≡ true → Leads (at xs Gap 0 []) (123 ∷ bs ++ 125 ∷ []) (at (xs ++ bs ∷ []) (Behind delimiter.Brace) 0 [])
braced_whole xs bs e = lead_both _ (at xs Braced 0 []) _ (123 ∷ []) (bs ++ 125 ∷ []) (brace_opens xs) (braced_leads xs false 0 [] bs e)

hash_is : (b : ℕ) (c : Class) → is_hash c ≡ true → c ≡ class.Hash
hash_is b class.Hash e = refl
hash_is b c e = absurd cc

abbrev Hashes : ℕ → Class → Type 0
Hashes b c = c ≡ class.Hash → b ≡ 35

named_hash : (b : ℕ) (x : Bool) → Hashes b (cond x class.Name class.Plain)
named_hash b true = λ e. absurd cc
named_hash b false = λ e. absurd cc

hash_byte : (b : ℕ) → Hashes b (class_of b)
unfolding class_of
hash_byte b =
    test (Hashes b) b 10 _ _ (λ e x. absurd cc) (test (Hashes b) b 59 _ _ (λ e x. absurd cc) (test (Hashes b) b 32 _ _ (λ e x. absurd cc) (test (Hashes b) b 9 _ _ (λ e x. absurd cc)
    (test (Hashes b) b 11 _ _ (λ e x. absurd cc) (test (Hashes b) b 12 _ _ (λ e x. absurd cc) (test (Hashes b) b 13 _ _ (λ e x. absurd cc) (test (Hashes b) b 35 _ _ (λ e x. e)
    (test (Hashes b) b 34 _ _ (λ e x. absurd cc) (test (Hashes b) b 123 _ _ (λ e x. absurd cc) (test (Hashes b) b 125 _ _ (λ e x. absurd cc) (test (Hashes b) b 91 _ _ (λ e x. absurd cc)
    (test (Hashes b) b 93 _ _ (λ e x. absurd cc) (test (Hashes b) b 40 _ _ (λ e x. absurd cc) (test (Hashes b) b 41 _ _ (λ e x. absurd cc) (test (Hashes b) b 92 _ _ (λ e x. absurd cc)
    (test (Hashes b) b 36 _ _ (λ e x. absurd cc) (test (Hashes b) b 58 _ _ (λ e x. absurd cc) (test (Hashes b) b 42 _ _ (λ e x. absurd cc) (named_hash b (is_name b))))))))))))))))))))

hash_whole : (xs : List (List ℕ)) (bs : List ℕ) → Leads (at xs Gap 0 []) (92 ∷ 35 ∷ escaped_text bs) (at xs (In Bare) 0 (35 ∷ bs))
hash_whole xs bs =
    lead_both _ (at xs (In Bare) 0 (35 ∷ [])) _ (92 ∷ 35 ∷ []) (escaped_text bs) (lead_both _ (at xs (Pair Bare) 0 []) _ (92 ∷ []) (35 ∷ []) (backslash_one xs true []) (hash_one xs []))
    (escaped_leads xs (35 ∷ []) bs)

hash_escapes : (b : ℕ) → b ≡ 35 → escaped_byte (class_of b) b ≡ 35 ∷ []
unfolding class_of
hash_escapes b e = subst (λ x. escaped_byte (class_of x) x ≡ 35 ∷ []) (sym e) refl

covered_whole : (xs : List (List ℕ)) (b : ℕ) (bs : List ℕ) (x : Bool) → (x ≡ true → b ≡ 35) → Leads (at xs Gap 0 []) (hash_covered x ++ escaped_text (b ∷ bs)) (at xs (In Bare) 0 (b ∷ bs))
covered_whole xs b bs true h =
    subst (λ t. Leads (at xs Gap 0 []) (92 ∷ t ++ escaped_text bs) (at xs (In Bare) 0 (b ∷ bs))) (sym (hash_escapes b (h refl)))
    (subst (λ y. Leads (at xs Gap 0 []) (92 ∷ 35 ∷ escaped_text bs) (at xs (In Bare) 0 (y ∷ bs))) (sym (h refl)) (hash_whole xs bs))
covered_whole xs b bs false h = escaped_whole xs b bs

-- behind an element: a space parts it from the next, and the text can end
record Landed (xs : List (List ℕ)) (x : List ℕ) (s : Listing) : Type 0 where
  gap : list_step s 32 ≡ Ok (at (xs ++ x ∷ []) Gap 0 [])
  stops : list_stop s ≡ Ok (xs ++ x ∷ [])

bare_lands : (xs : List (List ℕ)) (x : List ℕ) → Landed xs x (at xs (In Bare) 0 x)
unfolding list_step list_transition class_of list_stop list_ends
bare_lands xs x = record { gap = refl; stops = refl }

behind_lands : (xs : List (List ℕ)) (x : List ℕ) → Landed xs x (at (xs ++ x ∷ []) (Behind delimiter.Brace) 0 [])
unfolding list_step list_transition class_of list_stop list_ends
behind_lands xs x = record { gap = refl; stops = refl }

record Lands (xs : List (List ℕ)) (t x : List ℕ) : Type 0 where
  state : Listing
  leads : Leads (at xs Gap 0 []) t state
  landed : Landed xs x state

in_braces : (xs : List (List ℕ)) (b : ℕ) (bs : List ℕ) (h x : Bool) → (h ≡ true → b ≡ 35) → may_be_braced false 0 (b ∷ bs) ≡ x →
    Lands xs (cond x (123 ∷ (b ∷ bs) ++ 125 ∷ []) (hash_covered h ++ escaped_text (b ∷ bs))) (b ∷ bs)
in_braces xs b bs h true k e = record { state = _; leads = braced_whole xs (b ∷ bs) e; landed = behind_lands xs (b ∷ bs) }
in_braces xs b bs h false k e = record { state = _; leads = covered_whole xs b bs h k; landed = bare_lands xs (b ∷ bs) }

as_it_is : (xs : List (List ℕ)) (b : ℕ) (bs : List ℕ) (h x : Bool) → (h ≡ true → b ≡ 35) → (x ≡ true → is_plain (b ∷ bs) ≡ true) →
    Lands xs (cond x (b ∷ bs) (cond (may_be_braced false 0 (b ∷ bs)) (123 ∷ (b ∷ bs) ++ 125 ∷ []) (hash_covered h ++ escaped_text (b ∷ bs)))) (b ∷ bs)
as_it_is xs b bs h true k e = record { state = _; leads = plain_whole xs b bs (e refl); landed = bare_lands xs (b ∷ bs) }
as_it_is xs b bs h false k e = in_braces xs b bs h (may_be_braced false 0 (b ∷ bs)) k refl

lands : (xs : List (List ℕ)) (first : Bool) (x : List ℕ) → Lands xs (element_text first x) x
lands xs first [] = record { state = _; leads = braced_whole xs [] refl; landed = behind_lands xs [] }
lands xs first (b ∷ bs) =
    as_it_is xs b bs (first && begins_with_hash (b ∷ bs)) (is_plain (b ∷ bs) && not (first && begins_with_hash (b ∷ bs)))
    (λ e. hash_byte b (hash_is b (class_of b) (and_right first _ e))) (λ e. and_left _ _ e)

further_reads : (ys xs : List (List ℕ)) (x : List ℕ) (s : Listing) (p : ℕ) → Landed xs x s → list_read (further_text ys) s p ≡ Ok (xs ++ x ∷ ys)
unfolding list_read
further_reads [] xs x s p l = ap (λ r. list_stopped r p) l.stops
further_reads (y ∷ ys) xs x s p l =
    let e = lands (xs ++ x ∷ []) false y in
    let a = e.leads.on (further_text ys) (p + 1) in
    ap (λ r. list_onward r p (λ n. list_read (element_text false y ++ further_text ys) n (p + 1))) l.gap ∙ a.1 ∙ further_reads ys (xs ++ x ∷ []) y e.state a.0 e.landed
    ∙ ap (λ (z : List (List ℕ)). Ok z) (append_assoc xs (x ∷ []) (y ∷ ys))

class_trip : (xs : List (List ℕ)) → elements_of (text_by_class xs) ≡ Ok xs
unfolding elements_of list_read list_stop list_ends
class_trip [] = refl
class_trip (x ∷ xs) =
    let e = lands [] true x in
    let a = e.leads.on (further_text xs) 0 in
    ap without_place (a.1 ∙ further_reads xs [] x e.state a.0 e.landed)

pub round_trip : (xs : List (List ℕ)) → elements_of (text_of_list xs) ≡ Ok xs
round_trip xs = ap elements_of (text_by xs) ∙ class_trip xs

-- a text that is a list's canonical one has that list's elements
pub kept_reads : (text : List ℕ) (xs : List (List ℕ)) → text ≡ text_of_list xs → elements_of text ≡ Ok xs
kept_reads text xs e = ap elements_of e ∙ round_trip xs

-- so what reads a text reads a canonical one as its list
pub gives_back : (text : List ℕ) (r : Result (List (List ℕ)) WordFault) →
    MatchResult r (λ xs. elements_of text ≡ Ok xs) (λ f. (f ≡ Memory) ⊎ (elements_of text ≡ Err f)) →
    (xs : List (List ℕ)) → text ≡ text_of_list xs → MatchResult r (λ ys. ys ≡ xs) (λ f. f ≡ Memory)
gives_back text (Ok ys) e xs t = let same = sym e ∙ ap elements_of t ∙ round_trip xs in cc
gives_back text (Err f) (inl m) xs t = m
gives_back text (Err f) (inr e) xs t = let same = sym e ∙ ap elements_of t ∙ round_trip xs in absurd cc
