use Rattle.std.proofs.Common.{◌≡◌, ◌++◌, [], ◌∷◌, refl, subst, MatchBool, take, rules}
use Rattle.std.proofs.lemmas.List.{with_items_is}
use Rattle.rtrb.specs.Ring.{sent}
use Rattle.dg_transcript.specs.declared.code.ErrorCode.TheVariants.{Other}
use Rattle.std.specs.Io.KnownBytes.{Consumes}
use Rattle.dg_pipes.specs.declared.item.Item.TheVariants.{End, Fault}
use Rattle.dg_pipes.proofs.Pumping.{stopped, ended, went_on, keeps_nothing, consumes_none, fault_not_end}
use Rattle.dg_pipes.proofs.reader.pump.Goals as goal

pub returns-in-Ok-eq0-clause-some : goal.returns-in-Ok-eq0-clause-some
returns-in-Ok-eq0-clause-some g c not =
    let put = subst (λ b. MatchBool b (sent c.put-in-Ok-eq0.new.ring ≡ sent c.loop.ring ++ End ∷ []) (sent c.put-in-Ok-eq0.new.ring ≡ sent c.loop.ring)) not c.put-in-Ok-eq0.ensures.sent in
    stopped _ _ _ _ _ _ _ c.loop.invariant.0 c.in-Ok-eq0.ensures.bytes.0 put

pub returns-in-Ok-eq0-clause-all : goal.returns-in-Ok-eq0-clause-all
returns-in-Ok-eq0-clause-all g c so =
    let put = subst (λ b. MatchBool b (sent c.put-in-Ok-eq0.new.ring ≡ sent c.loop.ring ++ End ∷ []) (sent c.put-in-Ok-eq0.new.ring ≡ sent c.loop.ring)) so c.put-in-Ok-eq0.ensures.sent in
    let zero : c.in-Ok-eq0.field-0 ≡ 0 = search rules in
    let none = subst (λ n. Consumes (g.R.Read.remaining c.loop.reader) (g.R.Read.remaining c.read.new.self) (take n c.read.new.buf)) zero c.in-Ok-eq0.ensures.bytes.0 in
    ended _ _ _ _ _ _ End c.loop.invariant.0 none put refl (λ is. c.in-Ok-eq0.ensures.bytes.1 zero (search rules))

pub returns-then-not-put-clause-some : goal.returns-then-not-put-clause-some
returns-then-not-put-clause-some g c not =
    stopped _ _ _ _ _ _ _ c.loop.invariant.0 c.in-Ok-read.ensures.bytes.0 c.if-not-put.ensures.sent

pub loop-preserved : goal.loop-preserved
loop-preserved g c =
    (went_on _ _ _ _ _ _ c.first-bytes.result c.loop.invariant.0 (rw (c.first-bytes.ensures.bytes, with_items_is c.in-Ok.chunk c.read.new.buf (search rules)) c.in-Ok-read.ensures.bytes.0) c.if-not-put.ensures.sent, search rules)

pub returns-in-Err-clause-some : goal.returns-in-Err-clause-some
returns-in-Err-clause-some g c not =
    let put = subst (λ b. MatchBool b (sent c.put-in-Err.new.ring ≡ sent c.loop.ring ++ Fault Other ∷ []) (sent c.put-in-Err.new.ring ≡ sent c.loop.ring)) not c.put-in-Err.ensures.sent in
    stopped _ _ _ _ _ _ _ c.loop.invariant.0 (keeps_nothing _ _ c.in-Err.ensures.bytes) put

pub returns-in-Err-clause-all : goal.returns-in-Err-clause-all
returns-in-Err-clause-all g c so =
    let put = subst (λ b. MatchBool b (sent c.put-in-Err.new.ring ≡ sent c.loop.ring ++ Fault Other ∷ []) (sent c.put-in-Err.new.ring ≡ sent c.loop.ring)) so c.put-in-Err.ensures.sent in
    ended _ _ _ _ _ _ (Fault Other) c.loop.invariant.0 (keeps_nothing _ _ c.in-Err.ensures.bytes) put refl (λ is. absurd (fault_not_end Other is))

pub returns-in_default-clause-some : goal.returns-in_default-clause-some
returns-in_default-clause-some g c not =
    let put = subst (λ b. MatchBool b (sent c.put.new.ring ≡ sent c.loop.ring ++ Fault Other ∷ []) (sent c.put.new.ring ≡ sent c.loop.ring)) not c.put.ensures.sent in
    stopped _ _ _ _ _ _ [] c.loop.invariant.0 (consumes_none (g.R.Read.remaining c.loop.reader)) put

pub returns-in_default-clause-all : goal.returns-in_default-clause-all
returns-in_default-clause-all g c so =
    let put = subst (λ b. MatchBool b (sent c.put.new.ring ≡ sent c.loop.ring ++ Fault Other ∷ []) (sent c.put.new.ring ≡ sent c.loop.ring)) so c.put.ensures.sent in
    ended _ _ _ _ _ _ (Fault Other) c.loop.invariant.0 (consumes_none (g.R.Read.remaining c.loop.reader)) put refl (λ is. absurd (fault_not_end Other is))
