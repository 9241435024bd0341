-- Lines, written one field after the other.
use Rattle.std.proofs.Common.{◌≡◌, ℕ, suc, ◌+◌, ◌<◌, ◌≤◌, List, [], ◌∷◌, ◌++◌, length, map, flat_map, take, get_or, sym, ap, ◌∙◌, append_assoc, arith}
use Rattle.std.specs.Prelude.{Result, Ok, Err, OnOk, codes, decimal}
use Rattle.std.specs.List.{join_with_byte}
use Rattle.std.proofs.lemmas.List.{append-nil}
use Rattle.dg_transcript.specs.Text.{word_field, entry_fields, line_text, sessions_lines, text_of}
use Rattle.dg_transcript.specs.declared.entry.Entry.{Entry}
use Rattle.dg_transcript.specs.declared.line.Line.TheVariants as line
use Rattle.std.proofs.lemmas.List.{take_more, take_all, length-take}
use Rattle.std.proofs.lemmas.Grind.{flat_map-append}
use Rattle.std.proofs.lemmas.List.{map_push}

-- the fields behind the first, each behind a space
pub join-spaced : (k : List ℕ) (words : List (List ℕ)) → join_with_byte 32 (k ∷ map word_field words) ≡ k ++ flat_map (λ w. 32 ∷ word_field w) words
join-spaced k [] = sym (append-nil k)
join-spaced k (w ∷ ws) = ap (λ t. k ++ (32 ∷ t)) (join-spaced (word_field w) ws)

-- words behind the fields in front of them
pub behind_words : {E : Type 0} (r : Result (Unit {0}) E) (out mid new k : List ℕ) (words : List (List ℕ)) → mid ≡ out ++ k
    → OnOk r (new ≡ mid ++ flat_map (λ w. 32 ∷ word_field w) words) → OnOk r (new ≡ out ++ join_with_byte 32 (k ∷ map word_field words))
behind_words (Ok u) out mid new k words front all = all ∙ ap (λ t. t ++ flat_map (λ w. 32 ∷ word_field w) words) front ∙ append_assoc out k (flat_map (λ w. 32 ∷ word_field w) words) ∙ ap (λ t. out ++ t) (sym (join-spaced k words))
behind_words (Err e) out mid new k words front all = tt

regroup : (out a b c d : List ℕ) → ((out ++ (a ++ b)) ++ c) ++ d ≡ out ++ (a ++ (b ++ (c ++ d)))
regroup out a b c d = simp append_assoc

regroup-4 : (out a b c : List ℕ) → ((out ++ a) ++ b) ++ c ≡ out ++ (((a ++ b) ++ c) ++ [])
regroup-4 out a b c = simp append_assoc (ap (λ t. out ++ (a ++ (b ++ t))) (sym (append-nil c)))

regroup-3 : (out a b c : List ℕ) → (out ++ (a ++ b)) ++ c ≡ out ++ (a ++ (b ++ c))
regroup-3 out a b c = simp append_assoc

-- the first line of a session
pub session_begins : (out a b c : List ℕ) (n : ℕ) → a ≡ out ++ codes "session" → b ≡ a ++ (32 ∷ decimal n) → c ≡ b ++ (10 ∷ []) → c ≡ out ++ (line_text (line.Session n) ++ [])
unfolding line_text
session_begins out a b c n pa pb pc = pc ∙ ap (λ t. t ++ (10 ∷ [])) (pb ∙ ap (λ t. t ++ (32 ∷ decimal n)) pa) ∙ regroup-4 out (codes "session") (32 ∷ decimal n) (10 ∷ [])

-- one more entry's line
pub session_more : (out so_far a b first : List ℕ) (es : List Entry) (i : ℕ) (d : Entry) → i < length es
    → so_far ≡ out ++ (first ++ flat_map line_text (map line.Said (take i es)))
    → a ≡ so_far ++ join_with_byte 32 (entry_fields (get_or es i d)) → b ≡ a ++ (10 ∷ [])
    → b ≡ out ++ (first ++ flat_map line_text (map line.Said (take (i + 1) es)))
unfolding line_text
session_more out so_far a b first es i d lt before pa pb =
    let e = get_or es i d in
    let one : flat_map line_text (map line.Said (take (i + 1) es)) ≡ flat_map line_text (map line.Said (take i es)) ++ (join_with_byte 32 (entry_fields e) ++ (10 ∷ [])) =
    ap (λ t. flat_map line_text (map line.Said t)) (take_more es i d lt) ∙ ap (flat_map line_text) (map_push line.Said (take i es) e) ∙ flat_map-append line_text (map line.Said (take i es)) (line.Said e ∷ []) ∙ ap (λ t. flat_map line_text (map line.Said (take i es)) ++ t) (append-nil _) in
    pb ∙ ap (λ t. t ++ (10 ∷ [])) (pa ∙ ap (λ t. t ++ join_with_byte 32 (entry_fields e)) before)
    ∙ regroup out first (flat_map line_text (map line.Said (take i es))) (join_with_byte 32 (entry_fields e)) (10 ∷ [])
    ∙ ap (λ t. out ++ (first ++ t)) (sym one)

-- the lines of one more session
pub sessions-push : (n : ℕ) (ss : List (List Entry)) (s : List Entry) → sessions_lines n (ss ++ s ∷ []) ≡ sessions_lines n ss ++ (line.Session (n + length ss) ∷ map line.Said s)
unfolding sessions_lines
sessions-push n [] s = let same : n + length {A = List Entry} [] ≡ n = omega arith in rw same (ap (λ t. line.Session n ∷ t) (append-nil (map line.Said s)))
sessions-push n (t ∷ ss) s =
    let same : suc n + length ss ≡ n + length (t ∷ ss) = omega arith in
    ap (λ u. line.Session n ∷ (map line.Said t ++ u)) (sessions-push (suc n) ss s)
    ∙ ap (λ k. line.Session n ∷ (map line.Said t ++ (sessions_lines (suc n) ss ++ (line.Session k ∷ map line.Said s)))) same
    ∙ ap (λ u. line.Session n ∷ u) (sym (append_assoc (map line.Said t) (sessions_lines (suc n) ss) (line.Session (n + length (t ∷ ss)) ∷ map line.Said s)))

-- what is written once one more session is
pub text_more : (so_far new front : List ℕ) (ss : List (List Entry)) (i k : ℕ) (d : List Entry) → i < length ss → k ≡ i + 1
    → so_far ≡ front ++ flat_map line_text (sessions_lines 1 (take i ss))
    → new ≡ so_far ++ (line_text (line.Session k) ++ flat_map line_text (map line.Said (get_or ss i d)))
    → new ≡ front ++ flat_map line_text (sessions_lines 1 (take (i + 1) ss))
text_more so_far new front ss i k d lt number before more =
    let s = get_or ss i d in
    let same : 1 + length (take i ss) ≡ k = omega (arith, length-take i ss) in
    let lines : sessions_lines 1 (take (i + 1) ss) ≡ sessions_lines 1 (take i ss) ++ (line.Session k ∷ map line.Said s) =
    ap (sessions_lines 1) (take_more ss i d lt) ∙ sessions-push 1 (take i ss) s ∙ ap (λ t. sessions_lines 1 (take i ss) ++ (line.Session t ∷ map line.Said s)) same in
    more ∙ ap (λ t. t ++ (line_text (line.Session k) ++ flat_map line_text (map line.Said s))) before
    ∙ append_assoc front (flat_map line_text (sessions_lines 1 (take i ss))) _
    ∙ ap (λ t. front ++ t) (sym (ap (flat_map line_text) lines ∙ flat_map-append line_text (sessions_lines 1 (take i ss)) (line.Session k ∷ map line.Said s)))

-- the whole text, once the last line is written
pub text_whole : (so_far new : List ℕ) (ss : List (List Entry)) (i : ℕ) → length ss ≤ i
    → so_far ≡ codes "dejagnu-transcript 1\n" ++ flat_map line_text (sessions_lines 1 (take i ss)) → new ≡ so_far ++ codes "done\n" → new ≡ text_of ss
unfolding line_text text_of
text_whole so_far new ss i le before last =
    let all : flat_map line_text (sessions_lines 1 (take i ss)) ≡ flat_map line_text (sessions_lines 1 ss) = ap (λ t. flat_map line_text (sessions_lines 1 t)) (take_all i ss le) in
    last ∙ ap (λ t. t ++ codes "done\n") (before ∙ ap (λ t. codes "dejagnu-transcript 1\n" ++ t) all)
    ∙ append_assoc (codes "dejagnu-transcript 1\n") (flat_map line_text (sessions_lines 1 ss)) (codes "done\n")
    ∙ ap (λ t. codes "dejagnu-transcript 1\n" ++ t) (sym (flat_map-append line_text (sessions_lines 1 ss) (line.Done ∷ [])))

-- the same with a field between the first and the words
pub behind_code : {E : Type 0} (r : Result (Unit {0}) E) (out mid new k f : List ℕ) (words : List (List ℕ)) → mid ≡ out ++ (k ++ (32 ∷ f))
    → OnOk r (new ≡ mid ++ flat_map (λ w. 32 ∷ word_field w) words) → OnOk r (new ≡ out ++ join_with_byte 32 (k ∷ f ∷ map word_field words))
behind_code (Ok u) out mid new k f words front all =
    all ∙ ap (λ t. t ++ flat_map (λ w. 32 ∷ word_field w) words) front
    ∙ regroup-3 out k (32 ∷ f) (flat_map (λ w. 32 ∷ word_field w) words) ∙ ap (λ t. out ++ (k ++ (32 ∷ t))) (sym (join-spaced f words))
behind_code (Err e) out mid new k f words front all = tt
