use Rattle.std.proofs.Common.{◌≡◌, ◌≢◌, vec_len, ◌∙◌, sym, option_copied, arith}
use Rattle.std.proofs.lemmas.List.{length-append}
use Rattle.std.proofs.lemmas.List.Splits.{length-slice_split}
use Rattle.std.proofs.lemmas.Bool.{eqb-true, eqb-false}
use Rattle.std.proofs.lemmas.Result.{err_from_is_err_and}
use Rattle.dg_transcript.specs.Fields.{each_word, is_space}
use Rattle.dg_transcript.specs.Spaced.{behind}
use Rattle.dg_transcript.proofs.WordsLemmas.{goes_on, word_fails, words_many, words_done, words_none}
use Rattle.dg_transcript.proofs.fields.words_of.Goals as goal

pub returns-then-len-eq-MAX_WORDS : goal.returns-then-len-eq-MAX_WORDS
returns-then-len-eq-MAX_WORDS c =
    let total = rw c.in-Some.is at c.loop-left.invariant.total in
    words_many (behind (option_copied c.args.fields)) (omega (arith, total, length-slice_split is_space c.in-Some.text.now, c.if-len-eq-MAX_WORDS.true, c.len.ensures))

pub returns-in_err-word_of : goal.returns-in_err-word_of
returns-in_err-word_of c =
    let p = err_from_is_err_and c.from_residual.result c.from_residual.ensures.1 in
    let front = rw (c.in-Some.is, c.split.ensures) at c.loop-left.invariant.front in
    rw (p.1, p.2) (word_fails c.in_err-word_of.field-0.0 c.loop-left.words.items c.split.result.0.now (behind (option_copied c.split.result.1)) (behind (option_copied c.args.fields)) c.in_err-word_of.ensures front)

pub loop-left-preserved : goal.loop-left-preserved
loop-left-preserved c =
    let front = rw (c.in-Some.is, c.split.ensures) at c.loop-left.invariant.front in
    let total = rw (c.in-Some.is, c.split.ensures) at c.loop-left.invariant.total in
    record {
      front = rw c.in_ok-push.ensures.items (goes_on c.loop-left.words.items c.split.result.0.now c.in_ok-word_of.field-0 (behind (option_copied c.split.result.1)) (each_word (behind (option_copied c.args.fields))) c.in_ok-word_of.ensures front);
      total = rw (c.in_ok-push.ensures.items, length-append) (omega (arith, total));
      few = rw (c.in_ok-push.ensures.items, length-append) (omega (arith, c.loop-left.invariant.few, c.if-len-eq-MAX_WORDS.false, c.len.ensures));
    }

pub returns-then-is_empty : goal.returns-then-is_empty
returns-then-is_empty c =
    let none : vec_len c.loop-left.words ≡ 0 = eqb-true (vec_len c.loop-left.words) 0 (sym c.is_empty.ensures ∙ c.if-is_empty.true) in
    words_none c.loop-left.words.items (behind (option_copied c.args.fields)) (omega (arith, none, c.loop-left.words.ok.0)) (rw c.in_default.is at c.loop-left.invariant.total)

pub returns : goal.returns
returns c =
    let some : vec_len c.loop-left.words ≢ 0 = eqb-false (vec_len c.loop-left.words) 0 (sym c.is_empty.ensures ∙ c.if-is_empty.false) in
    let total = rw c.in_default.is at c.loop-left.invariant.total in
    let front = rw c.in_default.is at c.loop-left.invariant.front in
    rw c.from_vec.ensures (words_done c.loop-left.words.items (behind (option_copied c.args.fields)) (omega (arith, total, some, c.loop-left.words.ok.0)) (omega (arith, total, c.loop-left.invariant.few)) front)
