use Rattle.std.proofs.Common.{ℕ, ◌∷◌, ◌++◌, [], Option, Ok, refl, sym, subst}
use Rattle.mcap_model.specs.Made.{top}
use Rattle.file_check.specs.LastChunk.{LastTaken}
use Rattle.file_check.specs.TopRecords.{TopsOf}
use Rattle.file_check.proofs.Flattening.{inner_meets}
use Rattle.file_check.proofs.Followed.{ends_last}
use Rattle.file_check.proofs.Gathered.{has_last_message, has_other}
use Rattle.file_check.proofs.top_records.TopRecords.take.Goals as goal
use Rattle.file_check.proofs.top_records.TopRecords.take.Goals.{then-op-eq-MESSAGE, else-op-eq-MESSAGE}

pub returns : goal.returns
returns c = λ tops was fits there.
    let t = top c.args.op c.args.content.now in
    let last = subst (λ (o : Option ℕ). LastTaken tops t c.take.new.self (Ok o)) c.in-Ok-None.field-0-is (c.in-Ok-None.ensures tops was.last was.v9 there) in
    let indexed = c.in-Ok.ensures tops was.indexed fits (λ seven. ends_last tops t was.v9 last.1 seven) there (λ six. c.holds_messages-messages.ensures tops t last.0 six (inner_meets tops t six fits)) in
    elim c.if-op-eq-MESSAGE.branch [
      | then-op-eq-MESSAGE w ↦
          subst (TopsOf (tops ++ t ∷ [])) (sym w.self-is)
          (record { indexed = indexed; last = last.0; v9 = last.1; at_top = (λ e. has_last_message tops t w.if-op-eq-MESSAGE.true, λ has. refl) })
      | else-op-eq-MESSAGE w ↦
          subst (TopsOf (tops ++ t ∷ [])) (sym w.self-is)
          (record { indexed = indexed; last = last.0; v9 = last.1; at_top = has_other tops t c.args.self.now.has_messages w.if-op-eq-MESSAGE.false was.at_top })
    ]
