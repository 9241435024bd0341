-- A replay takes the entries that gates make.
use Rattle.std.proofs.Common.{ℕ, ◌≡◌, ◌-◌, ◌<◌, ◌≤◌, inl, inr, Bool, true, false, cond, List, Some, None, refl, sym, ap, ◌∙◌, subst, arith, eq-eqb}
use Rattle.std.specs.Prelude.{nat_lt, nat_le, nat_eq, unwrap_or}
use Rattle.std.proofs.lemmas.Bool.{le-leb, lt-ltb}
use Rattle.std.proofs.lemmas.Bool.Decides.{nat_tests}
use Rattle.std.specs.Cmp.Lexicographic.{nat_list_eq_equiv, lists_equiv}
use Rattle.dg_transcript.specs.declared.cursor.Cursor.{Cursor}
use Rattle.dg_transcript.specs.declared.cursor.Act.TheVariants as act
use Rattle.dg_transcript.specs.declared.cursor.Action.{Action}
use Rattle.dg_transcript.specs.declared.cursor.Action.TheVariants as action
use Rattle.dg_transcript.specs.declared.entry.Entry.{Entry}
use Rattle.dg_transcript.specs.declared.entry.Entry.TheVariants as entry
use Rattle.dg_bytes.specs.Same.{same_bytes, same_words}
use Rattle.dg_transcript.specs.Step.{Step, step, step_at, gone_on, answers, answers_if, arrives, departs, passes, waiting}
use Rattle.dg_gate.specs.Made.{Made, Takes}

same_text : (xs ys : List ℕ) → xs ≡ ys → same_bytes xs ys ≡ true
same_text xs ys e = subst (λ zs. same_bytes xs zs ≡ true) e (nat_list_eq_equiv.refl xs)

same_texts : (xs ys : List (List ℕ)) → xs ≡ ys → same_words xs ys ≡ true
same_texts xs ys e = subst (λ zs. same_words xs zs ≡ true) e ((lists_equiv nat_list_eq_equiv).refl xs)

-- within the first 65,536 entries a step is the one at the entry
at_entry : (c : Cursor) (a : Action) (e : Entry) → c.place < 65536 → step c a (Some e) ≡ step_at c a e
at_entry c a e room = ap (λ b. cond b (step_at c a e) (departs c a)) (lt-ltb c.place 65536 room)

answered : (c : Cursor) (a b : Action) (e : Entry) → c.place < 65536 → step_at c a e ≡ answers c b → Takes c a e
answered c a b e room so =
    let whole : step c a (Some e) ≡ answers c b = at_entry c a e room ∙ so in
    inl (ap (λ s. s.act) whole, ap (λ s. s.cursor) whole)

by_words : (c : Cursor) (a : Action) (e : Entry) (fits : Bool) → c.place < 65536 → step_at c a e ≡ answers_if fits c a → fits ≡ true → Takes c a e
by_words c a e fits room so is = answered c a a e room (so ∙ ap (λ b. answers_if b c a) is)

in_time : (c : Cursor) (limit wait : ℕ) (e : Entry) → c.wait ≡ None → c.place < 65536 → wait ≤ limit → step_at c (action.Read limit) e ≡ arrives c limit wait → Takes c (action.Read limit) e
in_time c limit wait e fresh room early so =
    let here : unwrap_or c.wait wait ≡ wait = ap (λ w. unwrap_or w wait) fresh in
    let test : nat_le (unwrap_or c.wait wait) limit ≡ true = ap (λ n. nat_le n limit) here ∙ le-leb wait limit early in
    answered c (action.Read limit) (action.Read (limit - unwrap_or c.wait wait)) e room
    (so ∙ ap (λ b. cond b (answers c (action.Read (limit - unwrap_or c.wait wait))) (record { act = act.TimedOut; cursor = waiting c (unwrap_or c.wait wait - limit); action = action.Read 0 })) test)

-- the step at a silence of which so much is left, by the two tests
abbrev silence_step : Cursor → ℕ → ℕ → Bool → Bool → Step
silence_step c limit left shorter same =
    cond shorter (passes c (action.Read (limit - left))) (record { act = act.TimedOut; cursor = cond same (gone_on c) (waiting c (left - limit)); action = action.Read 0 })

not_shorter : (a b : ℕ) → a ≡ b → nat_lt a b ≡ false
not_shorter a b e = grind (arith, nat_tests)

is_same : (a b : ℕ) → a ≡ b → nat_eq a b ≡ true
is_same a b e = eq-eqb a b e

silent : (c : Cursor) (limit : ℕ) → c.wait ≡ None → c.place < 65536 → Takes c (action.Read limit) (entry.Silence limit)
silent c limit fresh room =
    let left = unwrap_or c.wait limit in
    let here : left ≡ limit = ap (λ w. unwrap_or w limit) fresh in
    let whole : step c (action.Read limit) (Some (entry.Silence limit)) ≡ silence_step c limit left false true =
    at_entry c (action.Read limit) (entry.Silence limit) room
    ∙ ap (λ b. silence_step c limit left b (nat_eq left limit)) (not_shorter left limit here)
    ∙ ap (λ b. silence_step c limit left false b) (is_same left limit here) in
    inr (ap (λ s. s.act) whole, ap (λ s. s.cursor) whole, ap (λ s. s.action) whole, (limit, refl, refl))

-- a fresh place takes each made entry
pub takes : (c : Cursor) (a : Action) (e : Entry) → c.wait ≡ None → c.place < 65536 → Made a e → Takes c a e
takes c (action.Spawn words) (entry.Started given) fresh room made = by_words c (action.Spawn words) (entry.Started given) (same_words given words) room refl (same_texts given words made)
takes c (action.Spawn words) (entry.NoStart code given) fresh room made = by_words c (action.Spawn words) (entry.NoStart code given) (same_words given words) room refl (same_texts given words made)
takes c (action.Send bytes) (entry.Sent given) fresh room made = by_words c (action.Send bytes) (entry.Sent given) (same_bytes given bytes) room refl (same_text given bytes made)
takes c (action.Send bytes) (entry.NoSend code given) fresh room made = by_words c (action.Send bytes) (entry.NoSend code given) (same_bytes given bytes) room refl (same_text given bytes made)
takes c (action.Read limit) (entry.Chunk wait bytes) fresh room made = in_time c limit wait (entry.Chunk wait bytes) fresh room made.0 refl
takes c (action.Read limit) (entry.End wait) fresh room made = in_time c limit wait (entry.End wait) fresh room made refl
takes c (action.Read limit) (entry.NoRead code) fresh room made = answered c (action.Read limit) (action.Read limit) (entry.NoRead code) room refl
takes c (action.Read limit) (entry.Silence wait) fresh room made = subst (λ n. Takes c (action.Read limit) (entry.Silence n)) (sym made) (silent c limit fresh room)
takes c action.Close entry.Closed fresh room made = answered c action.Close action.Close entry.Closed room refl
takes c action.Close (entry.NoClose code) fresh room made = answered c action.Close action.Close (entry.NoClose code) room refl
takes c action.Wait (entry.Exited status) fresh room made = answered c action.Wait action.Wait (entry.Exited status) room refl
takes c action.Wait (entry.Killed signal) fresh room made = answered c action.Wait action.Wait (entry.Killed signal) room refl
takes c action.Wait (entry.NoWait code) fresh room made = answered c action.Wait action.Wait (entry.NoWait code) room refl
takes c a e fresh room made = absurd made
