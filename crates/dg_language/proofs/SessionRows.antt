-- Worked rows of the words of the commands on sessions.
use Rattle.std.proofs.Common.{◌≡◌, true, false, [], ◌∷◌, refl}
use Rattle.std.specs.Prelude.{pos, negsuc, Some, None, Ok, Err, codes}
use Rattle.dg_language.specs.declared.expect.Awaited.TheVariants.{Glob, Exact, End}
use Rattle.dg_language.specs.SessionWords.{spawn_words, send_words, match_words}
use Rattle.dg_language.specs.ExpectWords.{expect_words, pair, listed, leads_a_list, pairs_of}
use Rattle.dg_language.specs.Expecting.{milliseconds}

-- flags of spawn may repeat; one that it doesn't have is a fault
spawn-noecho : spawn_words (codes "-noecho" ∷ codes "-noecho" ∷ codes "cat" ∷ codes "-n" ∷ []) ≡ Ok (codes "cat" ∷ codes "-n" ∷ [])
unfolding spawn_words
spawn-noecho = refl

spawn-flag : spawn_words (codes "-x" ∷ codes "cat" ∷ []) ≡ Err (codes "bad flag \"-x\"")
unfolding spawn_words
spawn-flag = refl

spawn-nothing : spawn_words (codes "-noecho" ∷ []) ≡ Err (codes "wrong # args: spawn")
unfolding spawn_words
spawn-nothing = refl

send-dash : send_words None (codes "-i" ∷ codes "exp2" ∷ codes "--" ∷ codes "-x" ∷ []) ≡ Ok (Some (codes "exp2"), codes "-x")
unfolding send_words
send-dash = refl

send-flag : send_words None (codes "-x" ∷ []) ≡ Err (codes "bad flag \"-x\"")
unfolding send_words
send-flag = refl

match-max : match_words false (codes "-d" ∷ codes "5" ∷ []) ≡ Ok (true, Some (codes "5"))
unfolding match_words
match-max = refl

-- behind a kind `timeout` is a pattern; the last action may be left out
expect-pairs : expect_words None None (codes "-timeout" ∷ codes "5" ∷ codes "-gl" ∷ codes "timeout" ∷ codes "a" ∷ codes "-ex" ∷ codes "-x" ∷ codes "b" ∷ codes "eof" ∷ [])
    ≡ Ok (record {
      timeout = Some (codes "5");
      id = None;
      pairs = pair (Glob (codes "timeout")) (Some (codes "a")) ∷ pair (Exact (codes "-x")) (Some (codes "b")) ∷ pair End None ∷ [];
    })
unfolding expect_words pairs_of
expect-pairs = refl

-- a flag behind the first pattern, and one that expect doesn't have
expect-late-flag : expect_words None None (codes "x" ∷ codes "a" ∷ codes "-timeout" ∷ codes "5" ∷ []) ≡ Err (codes "bad flag \"-timeout\"")
unfolding expect_words pairs_of
expect-late-flag = refl

expect-no-pattern : expect_words None None (codes "x" ∷ codes "a" ∷ codes "-gl" ∷ []) ≡ Err (codes "wrong # args: expect")
unfolding expect_words pairs_of
expect-no-pattern = refl

-- a newline before the first other byte makes a list
expect-list : listed (codes "\n x {a}" ∷ []) ≡ Some (codes "\n x {a}")
unfolding leads_a_list
expect-list = refl

expect-no-list : listed (codes " x {a}\n" ∷ []) ≡ None
unfolding leads_a_list
expect-no-list = refl

expect-blank : listed (codes " \n " ∷ []) ≡ None
unfolding leads_a_list
expect-blank = refl

limit-seconds : milliseconds (pos 2) ≡ 2000
limit-seconds = refl

limit-hour : milliseconds (pos 4000) ≡ 3600000
limit-hour = refl

limit-negative : milliseconds (negsuc 0) ≡ 3600000
limit-negative = refl
