-- What a string, list or format command comes to is never want of memory.
use Rattle.std.proofs.Common.{◌≡◌, ℕ, ℤ, Bool, true, false, List, [], ◌∷◌, Option, None, Some, Result, Ok, Err, ap, cond, ◌≢◌, nat_eq}
use Rattle.std.specs.Cmp.Lexicographic.{pointwise}
use Rattle.dg_lists.specs.declared.fault.WordFault.{WordFault}
use Rattle.dg_lists.specs.Elements.{elements_of}
use Rattle.dg_expr.specs.Number.{number_of}
use Rattle.dg_cmds.specs.declared.fault.CmdFault.{CmdFault}
use Rattle.dg_cmds.specs.declared.fault.CmdFault.TheVariants.{Tcl, TooLong, Memory}
use Rattle.dg_cmds.specs.declared.index.Index.{Index}
use Rattle.dg_cmds.specs.declared.field.Field.{Field}
use Rattle.dg_cmds.specs.declared.field.Style.{Style}
use Rattle.dg_cmds.specs.declared.field.Style.TheVariants as style
use Rattle.dg_cmds.specs.declared.strings.Operation.{Operation}
use Rattle.dg_cmds.specs.declared.strings.Operation.TheVariants as op
use Rattle.dg_cmds.specs.declared.lists.Search.{Search}
use Rattle.dg_bytes.specs.Chain.{◌>>=◌}
use Rattle.dg_cmds.specs.Answers.{Answer, Command, given_by, limited, failed}
use Rattle.dg_cmds.specs.Bytes.{trimmed, trimmed_left, trimmed_right}
use Rattle.dg_cmds.specs.Indices.{index_of, index_or_error, read_index}
use Rattle.dg_cmds.specs.Numbers.{number_or_error, read_number}
use Rattle.dg_cmds.specs.Strings.{byte_of, by_operation, cased_of, compare_of, equal_of, first_of, last_of, length_of, match_of, operated, operation_of, range_of, repeat_of, string_of, trim_of}
use Rattle.dg_cmds.specs.Lists.{flagged_search, join_of, lindex_of, llength_of, lrange_of, lsearch_of, or_error, read_list, search_named, search_of, split_of}
use Rattle.dg_cmds.specs.Formats.{format_of, formatted, or_bad_field, value_in, with_field, with_parts, field_of}
use Rattle.dg_cmds.specs.Commands.{pure_commands, pure_of}

-- there is something else to give than want of memory
record Free {X : Type 0} (a : Result X CmdFault) : Type 0 where
  never : a ≡ Err Memory → ⊥

ok : {X : Type 0} (x : X) → Free (Ok x)
ok x = record { never = λ e. cc }

tcl : {X : Type 0} (m : List ℕ) → Free {X = X} (Err (Tcl m))
tcl m = record { never = λ e. cc }

long : {X : Type 0} → Free {X = X} (Err TooLong)
long = record { never = λ e. cc }

either : {X : Type 0} (b : Bool) (x y : Result X CmdFault) → Free x → Free y → Free (cond b x y)
either true x y f g = f
either false x y f g = g

fits : (v : List ℕ) → Free (limited v)
unfolding limited
fits v = either _ (Ok v) (Err TooLong) (ok v) long

fails : {X : Type 0} (m : List ℕ) → Free {X = X} (failed m)
unfolding failed
fails m = either _ (Err (Tcl m)) (Err TooLong) (tcl m) long

err_inside : {X Y : Type 0} (f : CmdFault) → (let r : Result Y CmdFault = Err f in r ≡ Err Memory) → (let r : Result X CmdFault = Err f in r ≡ Err Memory)
err_inside f e = let h : f ≡ Memory = cc in ap (λ (g : CmdFault). Err g) h

bind : {X Y : Type 0} (a : Result X CmdFault) (more : X → Result Y CmdFault) → Free a → ((x : X) → Free (more x)) → Free (a >>= more)
bind (Ok x) more f g = g x
bind {X} {Y} (Err fault) more f g = record { never = λ e. f.never (err_inside {X = X} {Y = Y} fault e) }

listed : (r : Result (List (List ℕ)) WordFault) → Free (or_error r)
listed (Ok xs) = ok xs
listed (Err f) = tcl _

list : (t : List ℕ) → Free (read_list t)
list t = listed (elements_of t)

indexed : (o : Option Index) (t : List ℕ) → Free (index_or_error o t)
indexed (Some i) t = ok i
indexed None t = fails _

index : (t : List ℕ) → Free (read_index t)
index t = indexed (index_of t) t

numbered : (o : Option ℤ) (t : List ℕ) → Free (number_or_error o t)
numbered (Some n) t = ok n
numbered None t = fails _

number : (t : List ℕ) → Free (read_number t)
number t = numbered (number_of t) t

length-free : (args : List (List ℕ)) → Free (length_of args)
length-free [] = tcl _
length-free (t ∷ []) = ok _
length-free (t ∷ u ∷ r) = tcl _

byte-free : (args : List (List ℕ)) → Free (byte_of args)
byte-free [] = tcl _
byte-free (t ∷ []) = tcl _
byte-free (t ∷ i ∷ []) = bind _ _ (index i) (λ at. fits _)
byte-free (t ∷ i ∷ j ∷ r) = tcl _

range-free : (args : List (List ℕ)) → Free (range_of args)
range-free [] = tcl _
range-free (t ∷ []) = tcl _
range-free (t ∷ i ∷ []) = tcl _
range-free (t ∷ i ∷ j ∷ []) = bind _ _ (index i) (λ first. bind _ _ (index j) (λ last. fits _))
range-free (t ∷ i ∷ j ∷ k ∷ r) = tcl _

first-free : (args : List (List ℕ)) → Free (first_of args)
first-free [] = tcl _
first-free (n ∷ []) = tcl _
first-free (n ∷ t ∷ []) = ok _
first-free (n ∷ t ∷ i ∷ []) = bind _ _ (index i) (λ at. ok _)
first-free (n ∷ t ∷ i ∷ j ∷ r) = tcl _

last-free : (args : List (List ℕ)) → Free (last_of args)
last-free [] = tcl _
last-free (n ∷ []) = tcl _
last-free (n ∷ t ∷ []) = ok _
last-free (n ∷ t ∷ i ∷ []) = bind _ _ (index i) (λ at. ok _)
last-free (n ∷ t ∷ i ∷ j ∷ r) = tcl _

compare-free : (args : List (List ℕ)) → Free (compare_of args)
compare-free [] = tcl _
compare-free (a ∷ []) = tcl _
compare-free (a ∷ b ∷ []) = ok _
compare-free (a ∷ b ∷ c ∷ r) = tcl _

equal-free : (args : List (List ℕ)) → Free (equal_of args)
equal-free [] = tcl _
equal-free (a ∷ []) = tcl _
equal-free (a ∷ b ∷ []) = ok _
equal-free (a ∷ b ∷ c ∷ r) = tcl _

match-free : (args : List (List ℕ)) → Free (match_of args)
match-free [] = tcl _
match-free (a ∷ []) = tcl _
match-free (a ∷ b ∷ []) = ok _
match-free (a ∷ b ∷ c ∷ r) = tcl _

cased-free : (f : ℕ → ℕ) (args : List (List ℕ)) → Free (cased_of f args)
cased-free f [] = tcl _
cased-free f (t ∷ []) = fits _
cased-free f (t ∷ i ∷ []) = bind _ _ (index i) (λ at. fits _)
cased-free f (t ∷ i ∷ j ∷ []) = bind _ _ (index i) (λ first. bind _ _ (index j) (λ last. fits _))
cased-free f (t ∷ i ∷ j ∷ k ∷ r) = tcl _

trim-free : (cut : (ℕ → Bool) → List ℕ → List ℕ) (args : List (List ℕ)) → Free (trim_of cut args)
trim-free cut [] = tcl _
trim-free cut (t ∷ []) = fits _
trim-free cut (t ∷ bytes ∷ []) = fits _
trim-free cut (t ∷ bytes ∷ u ∷ r) = tcl _

repeat-free : (args : List (List ℕ)) → Free (repeat_of args)
repeat-free [] = tcl _
repeat-free (t ∷ []) = tcl _
repeat-free (t ∷ n ∷ []) = bind _ _ (number n) (λ count. fits _)
repeat-free (t ∷ n ∷ u ∷ r) = tcl _

operated-free : (o : Operation) (args : List (List ℕ)) → Free (operated o args)
operated-free op.Length args = length-free args
operated-free op.Index args = byte-free args
operated-free op.Range args = range-free args
operated-free op.First args = first-free args
operated-free op.Last args = last-free args
operated-free op.Compare args = compare-free args
operated-free op.Equal args = equal-free args
operated-free op.Match args = match-free args
operated-free op.Lower args = cased-free _ args
operated-free op.Upper args = cased-free _ args
operated-free op.Trim args = trim-free trimmed args
operated-free op.TrimLeft args = trim-free trimmed_left args
operated-free op.TrimRight args = trim-free trimmed_right args
operated-free op.Repeat args = repeat-free args

by_operation-free : (o : Option Operation) (args : List (List ℕ)) → Free (by_operation o args)
by_operation-free None args = tcl _
by_operation-free (Some o) args = operated-free o args

string-free : (words : List (List ℕ)) → Free (string_of words)
unfolding string_of
string-free [] = tcl _
string-free (word ∷ args) = by_operation-free (operation_of word) args

llength-free : (args : List (List ℕ)) → Free (llength_of args)
llength-free [] = tcl _
llength-free (l ∷ []) = bind _ _ (list l) (λ xs. ok _)
llength-free (l ∷ u ∷ r) = tcl _

lindex-free : (args : List (List ℕ)) → Free (lindex_of args)
lindex-free [] = tcl _
lindex-free (l ∷ []) = tcl _
lindex-free (l ∷ i ∷ []) = bind _ _ (list l) (λ xs. bind _ _ (index i) (λ at. fits _))
lindex-free (l ∷ i ∷ j ∷ r) = tcl _

lrange-free : (args : List (List ℕ)) → Free (lrange_of args)
lrange-free [] = tcl _
lrange-free (l ∷ []) = tcl _
lrange-free (l ∷ i ∷ []) = tcl _
lrange-free (l ∷ i ∷ j ∷ []) = bind _ _ (list l) (λ xs. bind _ _ (index i) (λ first. bind _ _ (index j) (λ last. fits _)))
lrange-free (l ∷ i ∷ j ∷ k ∷ r) = tcl _

join-free : (args : List (List ℕ)) → Free (join_of args)
join-free [] = tcl _
join-free (l ∷ []) = bind _ _ (list l) (λ xs. fits _)
join-free (l ∷ s ∷ []) = bind _ _ (list l) (λ xs. fits _)
join-free (l ∷ s ∷ u ∷ r) = tcl _

split-free : (args : List (List ℕ)) → Free (split_of args)
split-free [] = tcl _
split-free (t ∷ []) = fits _
split-free (t ∷ bytes ∷ []) = fits _
split-free (t ∷ bytes ∷ u ∷ r) = tcl _

search-free : (test : List ℕ → Bool) (l : List ℕ) → Free (search_of test l)
search-free test l = bind _ _ (list l) (λ xs. ok _)

flagged-free : (o : Option Search) (flag l p : List ℕ) → Free (flagged_search o flag l p)
flagged-free (Some k) flag l p = search-free _ l
flagged-free None flag l p = fails _

lsearch-free : (args : List (List ℕ)) → Free (lsearch_of args)
lsearch-free [] = tcl _
lsearch-free (l ∷ []) = tcl _
lsearch-free (l ∷ p ∷ []) = search-free _ l
lsearch-free (flag ∷ l ∷ p ∷ []) = flagged-free (search_named flag) flag l p
lsearch-free (flag ∷ l ∷ p ∷ u ∷ r) = tcl _

bad_field-free : (o : Option Field) → Free (or_bad_field o)
bad_field-free (Some f) = ok f
bad_field-free None = tcl _

value-free : (f : Field) (s : Style) (v : List ℕ) → Free (value_in f s v)
value-free f style.Text v = ok _
value-free f style.Decimal v = bind _ _ (number v) (λ z. ok _)
value-free f style.Hex v = bind _ _ (number v) (λ z. ok _)
value-free f style.UpperHex v = bind _ _ (number v) (λ z. ok _)
value-free f style.Octal v = bind _ _ (number v) (λ z. ok _)

field-free : (text part v : List ℕ) → Free (with_field text part v)
unfolding with_field
field-free text part v =
    bind _ _ (bad_field-free (field_of part)) (λ f. bind _ _ (value-free f f.style v) (λ shown. bind _ _ (fits _) (λ longer. fits _)))

parts-free : (text : List ℕ) (parts values : List (List ℕ)) → Free (with_parts text parts values)
parts-free text [] values = ok text
parts-free text ([] ∷ plain ∷ parts) values = bind _ _ (fits _) (λ longer. parts-free longer parts values)
parts-free text ([] ∷ []) [] = tcl _
parts-free text ([] ∷ []) (v ∷ values) = bind _ _ (field-free text [] v) (λ longer. parts-free longer [] values)
parts-free text ((b ∷ bs) ∷ parts) [] = tcl _
parts-free text ((b ∷ bs) ∷ parts) (v ∷ values) = bind _ _ (field-free text (b ∷ bs) v) (λ longer. parts-free longer parts values)

formatted-free : (parts values : List (List ℕ)) → Free (formatted parts values)
formatted-free [] values = ok []
formatted-free (plain ∷ parts) values = bind _ _ (fits plain) (λ text. parts-free text parts values)

format-free : (words : List (List ℕ)) → Free (format_of words)
format-free [] = tcl _
format-free (f ∷ values) = formatted-free _ values

-- whatever name is looked up in a table
record AllFree (rows : List (List ℕ × Command)) : Type 0 where
  each : (name : List ℕ) (words : List (List ℕ)) → given_by rows name words ≡ Some (Err Memory) → ⊥

none-free : AllFree []
none-free = record { each = λ name words e. cc }

some_inside : (a : Answer) → Free a → (let o : Option Answer = Some a in o ≡ Some (Err Memory)) → ⊥
some_inside a f e = f.never (let h : a ≡ Err Memory = cc in h)

row-free : (b : Bool) (a : Answer) (rest : Option Answer) → Free a → (rest ≡ Some (Err Memory) → ⊥) → cond b (Some a) rest ≡ Some (Err Memory) → ⊥
row-free true a rest f g = some_inside a f
row-free false a rest f g = g

with_row : (row : List ℕ × Command) (rows : List (List ℕ × Command)) → ((words : List (List ℕ)) → Free (row.1 words)) → AllFree rows → AllFree (row ∷ rows)
with_row row rows f g = record { each = λ name words. row-free (pointwise nat_eq name row.0) (row.1 words) (given_by rows name words) (f words) (g.each name words) }

commands-free : AllFree pure_commands
commands-free =
    with_row _ _ string-free
    (with_row _ _ format-free
    (with_row _ _ (λ words. fits _)
    (with_row _ _ llength-free
    (with_row _ _ lindex-free
    (with_row _ _ lrange-free
    (with_row _ _ (λ words. fits _) (with_row _ _ join-free (with_row _ _ split-free (with_row _ _ lsearch-free none-free)))))))))

pub pure-free : (name : List ℕ) (words : List (List ℕ)) → pure_of name words ≢ Some (Err Memory)
unfolding pure_of
pure-free name words = commands-free.each name words
