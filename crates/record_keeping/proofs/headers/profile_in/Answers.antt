use Rattle.std.proofs.Common.{◌≡◌, ℕ, List, [], ◌∷◌, length, true, Result, Ok, Err, refl, sym, ap, ◌∙◌, arith}
use Rattle.std.specs.Prelude.{◌==◌, OnErr}
use Rattle.std.proofs.lemmas.Bool.{false≢true, ne_eqb}
use Rattle.std.proofs.lemmas.Result.{IfOk-weaker}
use Rattle.mcap_wire.proofs.Contents.{shows_decided}
use Rattle.rec_data.specs.Records.{header_kinds}
use Rattle.rec_data.specs.Parsed.{header_fields}
use Rattle.record_keeping.proofs.headers.profile_in.Goals as goal

none_by : (xs : List ℕ) → (length xs == 0) ≡ true → xs ≡ []
none_by [] is = refl
none_by (x ∷ xs) is = absurd (false≢true (sym (ne_eqb (length (x ∷ xs)) 0 (λ size. omega (arith, size))) ∙ is))

on_any : {A E X : Type 0} (result : Result A E) → X → OnErr result X
on_any (Ok it) x = tt
on_any (Err why) x = x

pub returns-then-is_empty-clause-profile : goal.returns-then-is_empty-clause-profile
returns-then-is_empty-clause-profile c f shows =
    let h = header_fields c.in-Ok.header in
    let same = shows_decided header_kinds c.args.content.now (h.profile, (h.library, tt)) (f.profile, (f.library, tt)) c.in-Ok.ensures.shown shows in
    let none = none_by h.profile (sym c.is_empty.ensures ∙ c.if-is_empty.true) in
    c.new-then-is_empty.ensures ∙ c.new.ensures.bytes ∙ sym none ∙ ap (λ v. v.0) same

pub returns-in-Ok-clause-profile : goal.returns-in-Ok-clause-profile
returns-in-Ok-clause-profile c f shows =
    let h = header_fields c.in-Ok.header in
    let same = shows_decided header_kinds c.args.content.now (h.profile, (h.library, tt)) (f.profile, (f.library, tt)) c.in-Ok.ensures.shown shows in
    IfOk-weaker c.copied.result _ _ (λ profile is. is ∙ ap (λ v. v.0) same) c.copied.ensures

pub returns-in-Ok-clause-lacks : goal.returns-in-Ok-clause-lacks
returns-in-Ok-clause-lacks c = on_any c.copied.result (λ f shows empty.
    let h = header_fields c.in-Ok.header in
    let same = shows_decided header_kinds c.args.content.now (h.profile, (h.library, tt)) (f.profile, (f.library, tt)) c.in-Ok.ensures.shown shows in
    let none = ap (λ v. v.0) same ∙ empty in
    let zero_long : (length h.profile == 0) ≡ true = ap (λ (l : List ℕ). length l == 0) none in
    false≢true (sym c.if-is_empty.false ∙ c.is_empty.ensures ∙ zero_long))

pub returns-in-Err-clause-profile : goal.returns-in-Err-clause-profile
returns-in-Err-clause-profile c f shows = absurd (c.in-Err.ensures.none f shows)
