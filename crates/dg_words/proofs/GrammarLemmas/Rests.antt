-- The rest of a text, by the stack of what is open before it.
use Rattle.std.specs.Prelude.{◌≡◌, ◌≢◌, ℕ, zero, suc, ◌+◌, List, [], ◌∷◌, ◌++◌, length, refl, true, false, ◌⊎◌}
use Rattle.std.proofs.Common.{inl, inr, ◌∙◌, ap, sym, arith, subst, append_assoc, length-append}
use Rattle.std.proofs.lemmas.List.{append-nil}
use Rattle.dg_words.specs.Piece.{Piece, Variable, Element, End, Command}
use Rattle.dg_words.specs.declared.kinds.Level.{Level}
use Rattle.dg_words.specs.declared.kinds.Level.TheVariants as level
use Rattle.dg_words.specs.declared.kinds.Opener.{Opener}
use Rattle.dg_words.specs.declared.kinds.Opener.TheVariants as opener
use Rattle.dg_lists.specs.declared.kinds.Context.{Context}
use Rattle.dg_lists.specs.declared.kinds.Context.TheVariants as context
use Rattle.dg_words.specs.declared.word.Word.{Word}
use Rattle.dg_lists.specs.Classes.{class_of}
use Rattle.dg_lists.specs.Grammar.Escapes.{each, Escaped, Spaces}
use Rattle.dg_words.specs.Grammar.Words as grammar
use Rattle.dg_words.specs.Grammar.Words.{blanks, ends_command, plain, skipped, Named, name_goes_on, begins_variable, brace_name_byte, with_text, Braced, Comment, Skipped, Gap, Parted, Parts, OneWord, Words, OneCommand, Script, Begun, begins_with_hash}
use Rattle.dg_words.proofs.GrammarLemmas.Between.{Outermost, OutermostIn, HasCommands}
use Rattle.dg_words.proofs.GrammarLemmas.Readings.{level_at}

mutual
  -- parts, up to the end of what they stand in
  pub data PartsLeft (l : Level) : List Opener → ℕ → Context → List ℕ → Type 0 where
    parts : {stack : List Opener} {n : ℕ} {s : Context} {t : List ℕ} (u after : List ℕ) (ps : List Piece) → t ≡ u ++ after → Parts (level_at l stack) n s after u ps → PartsEnd l stack n s after → PartsLeft l stack n s t

  -- the end of parts
  pub data PartsEnd (l : Level) : List Opener → ℕ → Context → List ℕ → Type 0 where
    bare : {stack : List Opener} {n : ℕ} {t : List ℕ} → Parted (level_at l stack) t → WordsLeft l stack n t → PartsEnd l stack n context.Bare t
    quoted : {stack : List Opener} {n : ℕ} {t : List ℕ} (rest : List ℕ) → t ≡ 34 ∷ rest → Parted (level_at l stack) rest → WordsLeft l stack n rest → PartsEnd l stack n context.Quoted t
    operand_quoted : {n : ℕ} {t : List ℕ} (rest : List ℕ) → l ≡ level.Alone → t ≡ 34 ∷ rest → PartsEnd l [] n context.Quoted t
    alone : {n : ℕ} {t : List ℕ} → l ≡ level.Alone → PartsEnd l [] n context.Alone t
    index : {stack : List Opener} {n : ℕ} {t : List ℕ} {s : Context} (rest : List ℕ) → t ≡ 41 ∷ rest → PartsLeft l stack (suc n) s rest → PartsEnd l (opener.Paren s ∷ stack) n context.Index t

  -- words, up to the end of their command
  pub data WordsLeft (l : Level) : List Opener → ℕ → List ℕ → Type 0 where
    words : {stack : List Opener} {n : ℕ} {t : List ℕ} (u after : List ℕ) (ws : List Word) → t ≡ u ++ after → Words (level_at l stack) n after u ws → CommandEnd l stack n after → WordsLeft l stack n t

  -- the end of a command
  pub data CommandEnd (l : Level) : List Opener → ℕ → List ℕ → Type 0 where
    at_end : {n : ℕ} → CommandEnd l [] n []
    at_ender : {n : ℕ} (b : ℕ) (rest : List ℕ) → l ≡ level.Top → ends_command level.Top (class_of b) ≡ true → CommandEnd l [] n (b ∷ rest)
    closed : {stack : List Opener} {n : ℕ} {s : Context} (rest : List ℕ) → PartsLeft l stack (suc n) s rest → CommandEnd l (opener.Bracket s ∷ stack) n (93 ∷ rest)
    more : {stack : List Opener} {n : ℕ} {s : Context} (b : ℕ) (rest : List ℕ) → ends_command level.Inside (class_of b) ≡ true → ScriptLeft l s stack n rest → CommandEnd l (opener.Bracket s ∷ stack) n (b ∷ rest)

  -- commands within brackets, up to the end of these
  pub data ScriptLeft (l : Level) : Context → List Opener → ℕ → List ℕ → Type 0 where
    script : {stack : List Opener} {n : ℕ} {s : Context} {t : List ℕ} (u rest : List ℕ) → t ≡ u ++ 93 ∷ rest → Script n (93 ∷ rest) u → PartsLeft l stack (suc n) s rest → ScriptLeft l s stack n t

-- a word and what comes behind it
pub record WordLeft (l : Level) (stack : List Opener) (n : ℕ) (t : List ℕ) : Type 0 where
  pub word : List ℕ
  pub after : List ℕ
  pub value : Word
  pub split : t ≡ word ++ after
  pub one : OneWord (level_at l stack) n after word value
  pub parted : Parted (level_at l stack) after
  pub rest : WordsLeft l stack n after

-- where a command may begin
abbrev pub StartLeft : Level → List Opener → ℕ → List ℕ → Type 0
StartLeft l [] n t = (ws : List Word) × (k : ℕ) × Begun t ws k
StartLeft l (opener.Bracket s ∷ stack) n t = ScriptLeft l s stack n t
StartLeft l (opener.Paren s ∷ stack) n t = Unit {0}

-- behind a quoted or a braced word, or an operand, behind which anything may come
abbrev pub BehindLeft : Level → List Opener → ℕ → List ℕ → Type 0
BehindLeft l stack n t = (Parted (level_at l stack) t × WordsLeft l stack n t) ⊎ ((l ≡ level.Alone) × (stack ≡ []))

-- a braced word in which so many braces are open
abbrev pub BracesLeft : Level → List Opener → ℕ → ℕ → List ℕ → Type 0
BracesLeft l stack n zero t = (u v rest : List ℕ) × (t ≡ u ++ 125 ∷ rest) × Braced u v × BehindLeft l stack n rest
BracesLeft l stack n (suc d) t = (u v rest : List ℕ) × (t ≡ u ++ 125 ∷ rest) × Braced u v × BracesLeft l stack n d rest

pub quoted_end : (l : Level) (stack : List Opener) (n : ℕ) (t rest : List ℕ) → t ≡ 34 ∷ rest → BehindLeft l stack n rest → PartsEnd l stack n context.Quoted t
quoted_end l stack n t rest e (inl x) = PartsEnd.quoted rest e x.0 x.1
quoted_end l [] n t rest e (inr x) = PartsEnd.operand_quoted rest x.0 e
quoted_end l (o ∷ stack) n t rest e (inr x) = let y = x.1 in absurd cc

-- parts in front of these
pub left_nothing : (l : Level) (stack : List Opener) (n : ℕ) (s : Context) (t : List ℕ) → PartsEnd l stack n s t → PartsLeft l stack n s t
left_nothing l stack n s t e = PartsLeft.parts [] t [] refl grammar.Parts.nothing e

pub left_byte : (l : Level) (stack : List Opener) (n : ℕ) (s : Context) (b : ℕ) (t : List ℕ) → plain (level_at l stack) s (class_of b) ≡ true → PartsLeft l stack n s t → PartsLeft l stack n s (b ∷ t)
left_byte l stack n s b t h (PartsLeft.parts u after ps e p q) = PartsLeft.parts (b ∷ u) after (with_text (b ∷ []) ps) (ap (λ x. b ∷ x) e) (grammar.Parts.byte b h p) q

pub left_escape : (l : Level) (stack : List Opener) (n : ℕ) (s : Context) (x w t : List ℕ) → Escaped t x w → PartsLeft l stack n s t → PartsLeft l stack n s (92 ∷ x ++ t)
left_escape l stack n s x w t h (PartsLeft.parts u after ps e p q) =
    PartsLeft.parts (92 ∷ x ++ u) after (with_text w ps) (ap (λ y. 92 ∷ y) (ap (λ y. x ++ y) e ∙ sym (append_assoc x u after))) (grammar.Parts.escape x w (subst (λ y. Escaped y x w) e h) p) q

pub left_joined : (l : Level) (stack : List Opener) (n : ℕ) (s : Context) (g t : List ℕ) → s ≢ context.Bare → Spaces g t → PartsLeft l stack n s t → PartsLeft l stack n s (92 ∷ 10 ∷ g ++ t)
left_joined l stack n s g t nb h (PartsLeft.parts u after ps e p q) =
    PartsLeft.parts (92 ∷ 10 ∷ g ++ u) after (with_text (32 ∷ []) ps) (ap (λ y. 92 ∷ 10 ∷ y) (ap (λ y. g ++ y) e ∙ sym (append_assoc g u after))) (grammar.Parts.joined_line g nb (subst (λ y. Spaces g y) e h) p) q

pub left_dollar : (l : Level) (stack : List Opener) (n : ℕ) (s : Context) (t : List ℕ) → begins_variable t ≡ false → PartsLeft l stack n s t → PartsLeft l stack n s (36 ∷ t)
left_dollar l stack n s t h (PartsLeft.parts u after ps e p q) =
    PartsLeft.parts (36 ∷ u) after (with_text (36 ∷ []) ps) (ap (λ y. 36 ∷ y) e) (grammar.Parts.dollar (ap begins_variable (sym e) ∙ h) p) q

pub left_variable : (l : Level) (stack : List Opener) (n : ℕ) (s : Context) (name t : List ℕ) → Named name → name ≢ [] → name_goes_on t ≡ false → PartsLeft l stack n s t → PartsLeft l stack n s (36 ∷ name ++ t)
left_variable l stack n s name t nm ne h (PartsLeft.parts u after ps e p q) =
    PartsLeft.parts (36 ∷ name ++ u) after (Variable name ∷ ps) (ap (λ y. 36 ∷ y) (ap (λ y. name ++ y) e ∙ sym (append_assoc name u after))) (grammar.Parts.variable name nm ne (ap name_goes_on (sym e) ∙ h) p) q

pub left_braced_variable : (l : Level) (stack : List Opener) (n : ℕ) (s : Context) (name t : List ℕ) → each brace_name_byte name ≡ true → PartsLeft l stack n s t → PartsLeft l stack n s (36 ∷ 123 ∷ name ++ 125 ∷ t)
left_braced_variable l stack n s name t h (PartsLeft.parts u after ps e p q) =
    PartsLeft.parts (36 ∷ 123 ∷ name ++ 125 ∷ u) after (Variable name ∷ ps) (ap (λ y. 36 ∷ 123 ∷ y) (ap (λ y. name ++ 125 ∷ y) e ∙ sym (append_assoc name (125 ∷ u) after))) (grammar.Parts.braced_variable name h p) q

element_text : (name i u after : List ℕ) → name ++ 40 ∷ (i ++ 41 ∷ (u ++ after)) ≡ name ++ 40 ∷ i ++ 41 ∷ u ++ after
element_text name i u after = sym (append_assoc (name ++ 40 ∷ i) (41 ∷ u) after ∙ append_assoc name (40 ∷ i) (41 ∷ u ++ after))

element_behind : (l : Level) (stack : List Opener) (n : ℕ) (s : Context) (name i a t rest : List ℕ) (is : List Piece) → Named name → t ≡ i ++ a → a ≡ 41 ∷ rest → Parts (level_at l stack) n context.Index a i is → PartsLeft l stack (suc n) s rest →
    PartsLeft l stack (suc n) s (36 ∷ name ++ 40 ∷ t)
element_behind l stack n s name i a t rest is nm e f j (PartsLeft.parts u after ps g p q) =
    let behind : a ≡ 41 ∷ u ++ after = f ∙ ap (λ y. 41 ∷ y) g in
    PartsLeft.parts (36 ∷ name ++ 40 ∷ i ++ 41 ∷ u) after (Element name ∷ is ++ End ∷ ps)
    (ap (λ y. 36 ∷ name ++ 40 ∷ y) (e ∙ ap (λ y. i ++ y) behind) ∙ ap (λ y. 36 ∷ y) (element_text name i u after))
    (grammar.Parts.element name nm (subst (λ y. Parts (level_at l stack) n context.Index y i is) behind j) p) q

element_end : (l : Level) (stack : List Opener) (n : ℕ) (s : Context) (name i a t : List ℕ) (is : List Piece) → Named name → t ≡ i ++ a → Parts (level_at l stack) n context.Index a i is → PartsEnd l (opener.Paren s ∷ stack) n context.Index a →
    PartsLeft l stack (suc n) s (36 ∷ name ++ 40 ∷ t)
element_end l stack n s name i a t is nm e j (PartsEnd.index rest f r) = element_behind l stack n s name i a t rest is nm e f j r

pub left_element : (l : Level) (stack : List Opener) (n : ℕ) (s : Context) (name t : List ℕ) → Named name → PartsLeft l (opener.Paren s ∷ stack) n context.Index t → PartsLeft l stack (suc n) s (36 ∷ name ++ 40 ∷ t)
left_element l stack n s name t nm (PartsLeft.parts i a is e j q) = element_end l stack n s name i a t is nm e j q

substituted : (l : Level) (stack : List Opener) (n : ℕ) (s : Context) (c t rest : List ℕ) → t ≡ c ++ 93 ∷ rest → Script n (93 ∷ rest) c → PartsLeft l stack (suc n) s rest → PartsLeft l stack (suc n) s (91 ∷ t)
substituted l stack n s c t rest e sc (PartsLeft.parts u after ps g p q) =
    PartsLeft.parts (91 ∷ c ++ 93 ∷ u) after (Command c ∷ ps) (ap (λ y. 91 ∷ y) (e ∙ ap (λ y. c ++ 93 ∷ y) g ∙ sym (append_assoc c (93 ∷ u) after)))
    (grammar.Parts.substitution (subst (λ y. Script n (93 ∷ y) c) g sc) p) q

pub left_substitution : (l : Level) (stack : List Opener) (n : ℕ) (s : Context) (t : List ℕ) → ScriptLeft l s stack n t → PartsLeft l stack (suc n) s (91 ∷ t)
left_substitution l stack n s t (ScriptLeft.script c rest e sc p) = substituted l stack n s c t rest e sc p

pub left_last : (l : Level) (stack : List Opener) (n : ℕ) (s : Context) → PartsEnd l stack n s [] → PartsLeft l stack n s (92 ∷ [])
left_last l stack n s e = PartsLeft.parts (92 ∷ []) [] _ refl (grammar.Parts.last_backslash refl) e

-- words and what stands before them
pub words_none : (l : Level) (stack : List Opener) (n : ℕ) (t : List ℕ) → CommandEnd l stack n t → WordsLeft l stack n t
words_none l stack n t e = WordsLeft.words [] t [] refl (grammar.Words.no_words grammar.Gap.nothing) e

front_text : (a g u r : List ℕ) → a ++ g ++ u ++ r ≡ a ++ (g ++ u ++ r)
front_text a g u r = append_assoc (a ++ g) u r ∙ append_assoc a g (u ++ r) ∙ ap (λ y. a ++ y) (sym (append_assoc g u r))

gap_front : (l : Level) (n : ℕ) (after a t : List ℕ) (ws : List Word) → ((g : List ℕ) → Gap l g → Gap l (a ++ g)) → Words l n after t ws → Words l n after (a ++ t) ws
gap_front l n after a t ws f (grammar.Words.no_words g) = grammar.Words.no_words (f t g)
gap_front l n after a t ws f (grammar.Words.word {g = g} {u = u} {t = r} {w = w} {ws = vs} gap one q others) =
    subst (λ y. Words l n after y (w ∷ vs)) (front_text a g u r) (grammar.Words.word {g = a ++ g} (f g gap) one q others)

words_front : (l : Level) (stack : List Opener) (n : ℕ) (a t : List ℕ) → ((g : List ℕ) → Gap (level_at l stack) g → Gap (level_at l stack) (a ++ g)) → WordsLeft l stack n t → WordsLeft l stack n (a ++ t)
words_front l stack n a t f (WordsLeft.words u after ws e w q) =
    WordsLeft.words (a ++ u) after ws (ap (λ y. a ++ y) e ∙ sym (append_assoc a u after)) (gap_front (level_at l stack) n after a u ws f w) q

pub words_blank : (l : Level) (stack : List Opener) (n b : ℕ) (t : List ℕ) → blanks (level_at l stack) (class_of b) ≡ true → WordsLeft l stack n t → WordsLeft l stack n (b ∷ t)
words_blank l stack n b t h w = words_front l stack n (b ∷ []) t (λ g i. grammar.Gap.blank b h i) w

pub words_line : (l : Level) (stack : List Opener) (n : ℕ) (t : List ℕ) → WordsLeft l stack n t → WordsLeft l stack n (92 ∷ 10 ∷ t)
words_line l stack n t w = words_front l stack n (92 ∷ 10 ∷ []) t (λ g i. grammar.Gap.joined_line i) w

one_word : (l : Level) (stack : List Opener) (n : ℕ) (t v a : List ℕ) (x : Word) → t ≡ v ++ a → OneWord (level_at l stack) n a v x → Parted (level_at l stack) a → WordsLeft l stack n a → WordsLeft l stack n t
one_word l stack n t v a x e o q (WordsLeft.words u after ws f w c) =
    WordsLeft.words (v ++ u) after (x ∷ ws) (e ∙ ap (λ y. v ++ y) f ∙ sym (append_assoc v u after))
    (grammar.Words.word {g = []} grammar.Gap.nothing (subst (λ y. OneWord (level_at l stack) n y v x) f o) (subst (λ y. Parted (level_at l stack) y) f q) w) c

pub words_word : (l : Level) (stack : List Opener) (n : ℕ) (t : List ℕ) → WordLeft l stack n t → WordsLeft l stack n t
words_word l stack n t w = one_word l stack n t w.word w.after w.value w.split w.one w.parted w.rest

-- commands and what stands before them
abbrev pub Skips : List ℕ → Type 0
Skips a = (after t : List ℕ) → Skipped after t → Skipped after (a ++ t)

command_front : (l : Level) (n : ℕ) (after a t : List ℕ) (ws : List Word) → Skips a → OneCommand l n after t ws → OneCommand l n after (a ++ t) ws
command_front l n after a t ws f (grammar.OneCommand.no_command k) = grammar.OneCommand.no_command (f after t k)
command_front l n after a t ws f (grammar.OneCommand.command {s = s} {u = u} {t = r} {w = w} {ws = vs} k nh one q others) =
    subst (λ y. OneCommand l n after y (w ∷ vs)) (front_text a s u r) (grammar.OneCommand.command {s = a ++ s} (f (u ++ r ++ after) s k) nh one q others)

script_front : (n : ℕ) (after a t : List ℕ) → Skips a → Script n after t → Script n after (a ++ t)
script_front n after a t f (grammar.Script.last c) = grammar.Script.last (command_front level.Inside n after a t _ f c)
script_front n after a t f (grammar.Script.more {u = u} {t = v} b h c r) =
    subst (λ y. Script n after y) (append_assoc a u (b ∷ v)) (grammar.Script.more b h (command_front level.Inside n (b ∷ v ++ after) a u _ f c) r)

begun_front : (a t : List ℕ) (ws : List Word) (k : ℕ) → Skips a → Begun t ws k → Begun (a ++ t) ws (length a + k)
begun_front a t ws k f (grammar.Begun.whole c) = subst (λ y. Begun (a ++ t) ws y) (length-append a t) (grammar.Begun.whole (command_front level.Top 100 [] a t ws f c))
begun_front a t ws k f (grammar.Begun.ended {t = u} {rest = rest} {w = w} {ws = vs} b h c) =
    let more : length (a ++ u) + 1 ≡ length a + (length u + 1) = omega (arith, length-append a u) in
    subst (λ y. Begun (a ++ (u ++ b ∷ rest)) (w ∷ vs) y) more
    (subst (λ y. Begun y (w ∷ vs) (length (a ++ u) + 1)) (append_assoc a u (b ∷ rest)) (grammar.Begun.ended b h (command_front level.Top 100 (b ∷ rest) a u (w ∷ vs) f c)))

script_left_front : (l : Level) (s : Context) (stack : List Opener) (n : ℕ) (a t : List ℕ) → Skips a → ScriptLeft l s stack n t → ScriptLeft l s stack n (a ++ t)
script_left_front l s stack n a t f (ScriptLeft.script u rest e sc p) = ScriptLeft.script (a ++ u) rest (ap (λ y. a ++ y) e ∙ sym (append_assoc a u (93 ∷ rest))) (script_front n (93 ∷ rest) a u f sc) p

pub start_front : (l : Level) (stack : List Opener) (n : ℕ) (a t : List ℕ) → Skips a → StartLeft l stack n t → StartLeft l stack n (a ++ t)
start_front l [] n a t f (ws, k, h) = (ws, length a + k, begun_front a t ws k f h)
start_front l (opener.Bracket s ∷ stack) n a t f h = script_left_front l s stack n a t f h
start_front l (opener.Paren s ∷ stack) n a t f h = tt

pub skips_byte : (b : ℕ) → skipped (class_of b) ≡ true → Skips (b ∷ [])
skips_byte b h = λ after t k. grammar.Skipped.byte b h k

pub skips_line : Skips (92 ∷ 10 ∷ [])
skips_line = λ after t k. grammar.Skipped.joined_line k

pub skips_comment : (c : List ℕ) → Comment (10 ∷ []) c → Skips (35 ∷ c ++ 10 ∷ [])
skips_comment c h = λ after t k. subst (λ y. Skipped after (35 ∷ y)) (sym (append_assoc c (10 ∷ []) t)) (grammar.Skipped.comment h k)

-- a command that begins with a word
top_word : (n : ℕ) (t v u after : List ℕ) (x : Word) (ws : List Word) → n ≡ 100 → t ≡ v ++ u ++ after → begins_with_hash v ≡ false → OneWord level.Top n (u ++ after) v x → Parted level.Top (u ++ after) → Words level.Top n after u ws →
    OneCommand level.Top 100 after (v ++ u) (x ∷ ws)
top_word n t v u after x ws m e nh o q w =
    subst (λ y. OneCommand level.Top y after (v ++ u) (x ∷ ws)) m (grammar.OneCommand.command {s = []} grammar.Skipped.nothing nh o q w)

top_begun : (l : Level) (n : ℕ) (t v u after : List ℕ) (x : Word) (ws : List Word) → l ≡ level.Top → n ≡ 100 → t ≡ v ++ u ++ after → begins_with_hash v ≡ false → OneWord l n (u ++ after) v x → Parted l (u ++ after) → Words l n after u ws →
    CommandEnd l [] n after → (ys : List Word) × (k : ℕ) × Begun t ys k
top_begun l n t v u after x ws lt m e nh o q w CommandEnd.at_end =
    let c = top_word n t v u [] x ws m e nh (subst (λ y. OneWord y n (u ++ []) v x) lt o) (subst (λ y. Parted y (u ++ [])) lt q) (subst (λ y. Words y n [] u ws) lt w) in
    (x ∷ ws, length (v ++ u), subst (λ y. Begun y (x ∷ ws) (length (v ++ u))) (sym (append-nil (v ++ u)) ∙ sym e) (grammar.Begun.whole c))
top_begun l n t v u after x ws lt m e nh o q w (CommandEnd.at_ender b rest g h) =
    let c = top_word n t v u (b ∷ rest) x ws m e nh (subst (λ y. OneWord y n (u ++ b ∷ rest) v x) lt o) (subst (λ y. Parted y (u ++ b ∷ rest)) lt q) (subst (λ y. Words y n (b ∷ rest) u ws) lt w) in
    (x ∷ ws, length (v ++ u) + 1, subst (λ y. Begun y (x ∷ ws) (length (v ++ u) + 1)) (sym e) (grammar.Begun.ended b h c))

script_ends : (l : Level) (s : Context) (stack : List Opener) (n : ℕ) (t v u after : List ℕ) (x : Word) (ws : List Word) → t ≡ (v ++ u) ++ after → OneCommand level.Inside n after (v ++ u) (x ∷ ws) → CommandEnd l (opener.Bracket s ∷ stack) n after → ScriptLeft l s stack n t
script_ends l s stack n t v u after x ws e c (CommandEnd.closed rest p) = ScriptLeft.script (v ++ u) rest e (grammar.Script.last c) p
script_ends l s stack n t v u after x ws e c (CommandEnd.more b r h sc) = script_more l s stack n t (v ++ u) b r (x ∷ ws) e h c sc
  where
    script_more : (l : Level) (s : Context) (stack : List Opener) (n : ℕ) (t u : List ℕ) (b : ℕ) (r : List ℕ) (ws : List Word) → t ≡ u ++ b ∷ r → ends_command level.Inside (class_of b) ≡ true → OneCommand level.Inside n (b ∷ r) u ws → ScriptLeft l s stack n r → ScriptLeft l s stack n t
    script_more l s stack n t u b r ws e h c (ScriptLeft.script v rest f sc p) =
        ScriptLeft.script (u ++ b ∷ v) rest (e ∙ ap (λ y. u ++ b ∷ y) f ∙ sym (append_assoc u (b ∷ v) (93 ∷ rest)))
        (grammar.Script.more b h (subst (λ y. OneCommand level.Inside n (b ∷ y) u ws) f c) sc) p

hash_first : (v a : List ℕ) → begins_with_hash (v ++ a) ≡ false → begins_with_hash v ≡ false
hash_first [] a h = refl
hash_first (b ∷ bs) a h = h

top_level : (l : Level) → Outermost l → HasCommands l → l ≡ level.Top
top_level level.Top o h = refl
top_level level.List o h = absurd h
top_level level.Inside o h = absurd o
top_level level.Alone o h = absurd o

start_one : (l : Level) (stack : List Opener) → OutermostIn l stack → HasCommands (level_at l stack) → (n : ℕ) (t v a : List ℕ) (x : Word) → n + length stack ≡ 100 → begins_with_hash v ≡ false → t ≡ v ++ a → OneWord (level_at l stack) n a v x → Parted (level_at l stack) a → WordsLeft l stack n a → StartLeft l stack n t
start_one l [] ol hc n t v a x m nh e o q (WordsLeft.words u after ws f w c) =
    top_begun l n t v u after x ws (top_level l ol hc) (omega (arith, m)) (e ∙ ap (λ y. v ++ y) f ∙ sym (append_assoc v u after)) nh (subst (λ y. OneWord l n y v x) f o) (subst (λ y. Parted l y) f q) w c
start_one l (opener.Bracket s ∷ stack) ol hc n t v a x m nh e o q (WordsLeft.words u after ws f w c) =
    script_ends l s stack n t v u after x ws (e ∙ ap (λ y. v ++ y) f ∙ sym (append_assoc v u after))
    (grammar.OneCommand.command {s = []} grammar.Skipped.nothing nh (subst (λ y. OneWord level.Inside n y v x) f o) (subst (λ y. Parted level.Inside y) f q) w) c
start_one l (opener.Paren s ∷ stack) ol hc n t v a x m nh e o q w = tt

pub start_word : (l : Level) (stack : List Opener) → OutermostIn l stack → HasCommands (level_at l stack) → (n : ℕ) (t : List ℕ) → n + length stack ≡ 100 → begins_with_hash t ≡ false → WordLeft l stack n t → StartLeft l stack n t
start_word l stack o hc n t m nh w = start_one l stack o hc n t w.word w.after w.value m (hash_first w.word w.after (ap begins_with_hash (sym w.split) ∙ nh)) w.split w.one w.parted w.rest
