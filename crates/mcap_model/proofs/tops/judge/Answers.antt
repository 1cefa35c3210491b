use Rattle.std.proofs.Common.{◌≡◌, ◌∷◌, ℕ, refl, sym, subst, arith}
use Rattle.std.proofs.lemmas.Bool.{both_ways}
use Rattle.mcap_model.specs.Tops.{flat}
use Rattle.mcap_model.specs.Rules.{breaks_5, breaks_6}
use Rattle.mcap_model.proofs.Histories.{data_end_meets}
use Rattle.mcap_model.specs.declared.rules.Rule.TheVariants as rules
use Rattle.mcap_model.specs.declared.tables.Ruling.TheVariants as rulings
use Rattle.mcap_model.specs.Made.{top}
use Rattle.mcap_model.specs.Judging.{JudgedAs}
use Rattle.mcap_model.proofs.Meets.{message_meets, metadata_meets, attachment_meets}
use Rattle.mcap_model.proofs.Agreeing.{other_more}
use Rattle.mcap_model.proofs.Judging.{flat_judged, silent_fits, attachment_fits, attachment_broken, breaks_plain, judged_by, misplaced, other_section}
use Rattle.mcap_model.proofs.tops.judge.Goals as goal
use Rattle.mcap_model.proofs.Logging.{index_meets}

pub returns-in-3 : goal.returns-in-3
returns-in-3 c = λ first more unended stands.
    subst (JudgedAs (first ∷ more) (top c.args.op c.args.content.now) c.take_schema.new.self) (sym c.of_ruling.ensures)
    (flat_judged first more c.args.op 3 c.args.content.now c.take_schema.new.self c.take_schema.result c.in-3.is refl (λ e. omega (arith, e)) (λ e. omega (arith, e)) (λ e. omega (arith, e)) refl (c.take_schema.ensures (flat (first ∷ more)) stands))

pub returns-in-4 : goal.returns-in-4
returns-in-4 c = λ first more unended stands.
    subst (JudgedAs (first ∷ more) (top c.args.op c.args.content.now) c.take_channel.new.self) (sym c.of_ruling-in-4.ensures)
    (flat_judged first more c.args.op 4 c.args.content.now c.take_channel.new.self c.take_channel.result c.in-4.is refl (λ e. omega (arith, e)) (λ e. omega (arith, e)) (λ e. omega (arith, e)) refl (c.take_channel.ensures (flat (first ∷ more)) stands))

pub returns-in-Ok : goal.returns-in-Ok
returns-in-Ok c = λ first more unended stands.
    let h = c.in-Ok.ensures (flat (first ∷ more)) stands in
    let t = top 5 c.args.content.now in
    flat_judged first more c.args.op 5 c.args.content.now c.args.tables.now rulings.Fits c.in-5.is refl (λ e. omega (arith, e)) (λ e. omega (arith, e)) (λ e. omega (arith, e)) refl
    (message_meets t h.channel h.message h.is, h.agrees, other_more (flat (first ∷ more)) c.args.tables.now t stands (λ e. omega (arith, e)) (λ e. omega (arith, e)))

pub returns-in-Err : goal.returns-in-Err
returns-in-Err c = λ first more unended stands.
    flat_judged first more c.args.op 5 c.args.content.now c.args.tables.now (rulings.Breaks c.in-Err.rule) c.in-5.is refl (λ e. omega (arith, e)) (λ e. omega (arith, e)) (λ e. omega (arith, e)) refl
    (c.in-Err.ensures (flat (first ∷ more)) stands)

pub returns-in-6 : goal.returns-in-6
returns-in-6 c = λ first more unended stands.
    subst (λ (n : ℕ). JudgedAs (first ∷ more) (top n c.args.content.now) c.judge_chunk.new.tables c.judge_chunk.result) (sym c.in-6.is) (c.judge_chunk.ensures first more stands)

pub returns-in-7 : goal.returns-in-7
returns-in-7 c = λ first more unended stands.
    let t = top 7 c.args.content.now in
    let is = c.is_message_index.ensures in
    subst (JudgedAs (first ∷ more) (top c.args.op c.args.content.now) c.args.tables.now) (sym c.kept_or.ensures)
    (judged_by (first ∷ more) (top c.args.op c.args.content.now) c.args.tables.now c.is_message_index.result rules.V6
    (λ yes. let s = is.0 yes in silent_fits first more c.args.op 7 c.args.content.now c.args.tables.now c.in-7.is refl (λ e. omega (arith, e)) (λ e. omega (arith, e)) (λ e. omega (arith, e)) refl (index_meets t s.0 s.1 s.2) stands)
    (λ no. breaks_plain (first ∷ more) c.args.op 7 c.args.content.now rules.V6 c.in-7.is (λ e. omega (arith, e)) (breaks_6 (λ v6. both_ways c.is_message_index.result no (is.1 (v6.message_index refl))))))

pub returns-in-None : goal.returns-in-None
returns-in-None c = λ first more unended stands.
    let h = c.in-None.ensures in
    attachment_fits first more c.args.op c.args.content.now c.args.tables.now c.in-9.is (attachment_meets (top 9 c.args.content.now) h.0.0 h.0.1) h.1 stands

pub returns-in-Some : goal.returns-in-Some
returns-in-Some c = λ first more unended stands. attachment_broken (first ∷ more) c.args.op c.args.content.now c.in-Some.rule c.in-9.is c.in-Some.ensures

pub returns-in-12 : goal.returns-in-12
returns-in-12 c = λ first more unended stands.
    let t = top 12 c.args.content.now in
    let is = c.is_metadata.ensures in
    subst (JudgedAs (first ∷ more) (top c.args.op c.args.content.now) c.args.tables.now) (sym c.kept_or-in-12.ensures)
    (judged_by (first ∷ more) (top c.args.op c.args.content.now) c.args.tables.now c.is_metadata.result rules.V6
    (λ yes. let s = is.0 yes in silent_fits first more c.args.op 12 c.args.content.now c.args.tables.now c.in-12.is refl (λ e. omega (arith, e)) (λ e. omega (arith, e)) (λ e. omega (arith, e)) refl (metadata_meets t s.0 s.1 s.2) stands)
    (λ no. breaks_plain (first ∷ more) c.args.op 12 c.args.content.now rules.V6 c.in-12.is (λ e. omega (arith, e)) (breaks_6 (λ v6. both_ways c.is_metadata.result no (is.1 (v6.metadata refl))))))

pub returns-in-15 : goal.returns-in-15
returns-in-15 c = λ first more unended stands.
    let t = top 15 c.args.content.now in
    let is = c.is_data_end.ensures in
    subst (JudgedAs (first ∷ more) (top c.args.op c.args.content.now) c.args.tables.now) (sym c.kept_or-in-15.ensures)
    (judged_by (first ∷ more) (top c.args.op c.args.content.now) c.args.tables.now c.is_data_end.result rules.V6
    (λ yes. silent_fits first more c.args.op 15 c.args.content.now c.args.tables.now c.in-15.is refl (λ e. omega (arith, e)) (λ e. omega (arith, e)) (λ e. omega (arith, e)) refl (data_end_meets t (is.0 yes)) stands)
    (λ no. breaks_plain (first ∷ more) c.args.op 15 c.args.content.now rules.V6 c.in-15.is (λ e. omega (arith, e)) (breaks_6 (λ v6. both_ways c.is_data_end.result no (is.1 (v6.data_end refl))))))

pub returns-in_default : goal.returns-in_default
returns-in_default c = λ first more unended stands.
    let t = top c.args.op c.args.content.now in
    let closed : c.args.op ≡ 6 → ⊥ = λ (e : c.args.op ≡ 6). omega (arith, e) in (
      (λ some name names. let is = names.is in closed is.kind),
      breaks_5 (misplaced first more t unended (other_section c.args.op (λ e. omega (arith, e)) (λ e. omega (arith, e)) (λ e. omega (arith, e)) closed (λ e. omega (arith, e)) (λ e. omega (arith, e)) (λ e. omega (arith, e)) (λ e. omega (arith, e)) (omega arith))),
    )
