-- What an index names.
use Rattle.std.proofs.Common.{◌≡◌, ◌∙◌, ◌||◌, ℕ, Bool, true, false, cond, List, [], ◌∷◌, ◌++◌, refl, ap, sym, subst, IsTrue, ◌<◌, ◌+◌, length, get_or, take}
use Rattle.std.proofs.lemmas.List.{take_more}
use Rattle.std.specs.Prelude.{Option, Some, Result, Ok, Err, OnOk, nat_eq, unwrap_or}
use Rattle.std.specs.List.{list_any}
use Rattle.std.specs.Map.{lookup, lookup_key}
use Rattle.std.specs.Cmp.Lexicographic.{bytes_decides}
use Rattle.std.proofs.lemmas.Bool.{and_parts, and_from, eq-eqb}
use Rattle.std.proofs.lemmas.List.Folds.{list_any-append}
use Rattle.indexmap.specs.IndexSet.{insert_key}
use Rattle.dg_index.specs.contracts.topic.TopicPartialEq.TheImpl as topics
use Rattle.dg_index.specs.Index.{IndexView, readers_of, is_among, NamesMore, NamesReads}
use Rattle.dg_index.specs.Topic.{same_topic, topic_of}
use Rattle.dg_world.specs.declared.question.Read.{Read}
use Rattle.dg_index.specs.declared.topic.Topic.{Topic}
use Rattle.dg_index.specs.declared.topic.Topic.TheVariants as topic

-- the test that the code makes of topics
pub topic_eq : (a b : Topic) → topics.ghosts.eq a b ≡ same_topic a b
topic_eq (topic.File a) (topic.File b) = refl
topic_eq topic.Selection topic.Selection = refl
topic_eq (topic.Transcript a s) (topic.Transcript b t) = refl
topic_eq (topic.Pattern a) (topic.Pattern b) = refl
topic_eq _ _ = refl

pub same_topic-true : (a b : Topic) → same_topic a b ≡ true → a ≡ b
same_topic-true (topic.File a) (topic.File b) h = ap topic.File ((bytes_decides a b).0 h)
same_topic-true topic.Selection topic.Selection h = refl
same_topic-true (topic.Transcript a s) (topic.Transcript b t) h =
    let p = and_parts _ _ h in
    λ i. topic.Transcript ((bytes_decides a b).0 p.0 i) ((bytes_decides s t).0 p.1 i)
same_topic-true (topic.Pattern a) (topic.Pattern b) h = ap topic.Pattern ((bytes_decides a b).0 h)
same_topic-true _ _ h = cc

pub same_topic-refl : (a : Topic) → same_topic a a ≡ true
same_topic-refl (topic.File a) = (bytes_decides a a).1 refl
same_topic-refl topic.Selection = refl
same_topic-refl (topic.Transcript a s) = and_from _ _ ((bytes_decides a a).1 refl) ((bytes_decides s s).1 refl)
same_topic-refl (topic.Pattern a) = (bytes_decides a a).1 refl

-- an inserted place is among the places
pub among-inserted : (places : List ℕ) (place : ℕ) → IsTrue (is_among (insert_key nat_eq places place) place)
among-inserted places place = step (list_any (nat_eq place) places) refl
  where
    step : (b : Bool) → list_any (nat_eq place) places ≡ b → list_any (nat_eq place) (cond b places (places ++ place ∷ [])) ≡ true
    step true e = e
    step false e = list_any-append (nat_eq place) places (place ∷ []) ∙ ap (λ b. b || list_any (nat_eq place) (place ∷ [])) e ∙ ap (λ b. b || false) (eq-eqb place place refl)

-- and so is each that was
pub among-stays : (places : List ℕ) (place p : ℕ) → IsTrue (is_among places p) → IsTrue (is_among (insert_key nat_eq places place) p)
among-stays places place p h = step (list_any (nat_eq place) places)
  where
    step : (b : Bool) → list_any (nat_eq p) (cond b places (places ++ place ∷ [])) ≡ true
    step true = h
    step false = list_any-append (nat_eq p) places (place ∷ []) ∙ ap (λ b. b || list_any (nat_eq p) (place ∷ [])) h

-- what holds anyway holds where a call goes well
pub if_well : {A B : Type 0} (r : Result A B) (P : Type 0) → P → OnOk r P
if_well (Ok a) P h = h
if_well (Err b) P h = tt

-- the new entries have these places at one topic, and at each other what the old ones have
abbrev pub Updated : IndexView → IndexView → Topic → List ℕ → Type 0
Updated old new t places = (q : Topic) → lookup (topics.ghosts.eq q) new ≡ cond (topics.ghosts.eq t q) (Some places) (lookup (topics.ghosts.eq q) old)

-- the places of a topic, by the code's test
pub readers-by : (es : IndexView) (t : Topic) → readers_of es t ≡ unwrap_or (lookup (topics.ghosts.eq t) es) []
readers-by es t = ap (λ (test : Topic → Bool). unwrap_or (lookup test es) []) (sym (λ i q. topic_eq t q i))

-- where they are found
pub readers-found : (es : IndexView) (t : Topic) (o : Option (List ℕ)) → o ≡ lookup (topics.ghosts.eq t) es → readers_of es t ≡ unwrap_or o []
readers-found es t o h = readers-by es t ∙ ap (λ x. unwrap_or x []) (sym h)

-- the topic that is found is the one that is looked for
pub found-topic : (es : IndexView) (t k : Topic) → Some k ≡ lookup_key (topics.ghosts.eq t) es → k ≡ t
found-topic [] t k h = cc
found-topic (e ∷ es) t k h = step (topics.ghosts.eq t e.0) refl h (found-topic es t k)
  where
    step : (b : Bool) → topics.ghosts.eq t e.0 ≡ b → Some k ≡ cond b (Some e.0) (lookup_key (topics.ghosts.eq t) es) → (Some k ≡ lookup_key (topics.ghosts.eq t) es → k ≡ t) → k ≡ t
    step true b g ih = let same : k ≡ e.0 = cc in same ∙ sym (same_topic-true t e.0 (sym (topic_eq t e.0) ∙ b))
    step false b g ih = ih g

-- after an update at a topic its places are these
pub readers-updated : (old new : IndexView) (t : Topic) (places : List ℕ) → Updated old new t places → readers_of new t ≡ places
readers-updated old new t places u =
    readers-by new t ∙ ap (λ o. unwrap_or o []) (u t ∙ ap (λ b. cond b (Some places) (lookup (topics.ghosts.eq t) old)) (topic_eq t t ∙ same_topic-refl t))

-- and where these have all that it had, each place that was named is
pub names-updated : (old new : IndexView) (t : Topic) (places : List ℕ) → Updated old new t places
    → ((p : ℕ) → IsTrue (is_among (readers_of old t) p) → IsTrue (is_among places p))
    → NamesMore old new
names-updated old new t places u more q p h = step (topics.ghosts.eq t q) refl
  where
    step : (b : Bool) → topics.ghosts.eq t q ≡ b → is_among (readers_of new q) p ≡ true
    step true e =
        let same : t ≡ q = same_topic-true t q (sym (topic_eq t q) ∙ e) in
        ap (λ l. is_among l p) (readers-by new q ∙ ap (λ o. unwrap_or o []) (u q ∙ ap (λ b. cond b (Some places) (lookup (topics.ghosts.eq q) old)) e))
        ∙ more p (subst (λ x. is_among (readers_of old x) p ≡ true) (sym same) h)
    step false e =
        ap (λ l. is_among l p) (
        readers-by new q ∙ ap (λ o. unwrap_or o []) (u q ∙ ap (λ b. cond b (Some places) (lookup (topics.ghosts.eq q) old)) e)
        ∙ sym (readers-by old q)
        ) ∙ h

-- an index that names more names the topics of the same reads
pub names-more : (few more : IndexView) (place : ℕ) (rs : List Read) → NamesMore few more → NamesReads few place rs → NamesReads more place rs
names-more few more place [] m h = tt
names-more few more place (r ∷ rs) m h = (m (topic_of r.question) place h.0, names-more few more place rs m h.1)

names-push : (index : IndexView) (place : ℕ) (rs : List Read) (r : Read) → NamesReads index place rs → IsTrue (is_among (readers_of index (topic_of r.question)) place) → NamesReads index place (rs ++ r ∷ [])
names-push index place [] r h n = (n, tt)
names-push index place (x ∷ rs) r h n = (h.0, names-push index place rs r h.1 n)

-- and so with one read more
pub names-next : (index : IndexView) (place : ℕ) (rs : List Read) (i : ℕ) (r : Read) → i < length rs → r ≡ get_or rs i r → NamesReads index place (take i rs)
    → IsTrue (is_among (readers_of index (topic_of r.question)) place) → NamesReads index place (take (i + 1) rs)
names-next index place rs i r lt is h n =
    subst (NamesReads index place) (sym (take_more rs i r lt ∙ ap (λ x. take i rs ++ x ∷ []) (sym is))) (names-push index place (take i rs) r h n)
