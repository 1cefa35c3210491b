-- A lane goes on listing messages, or counting them, and says nothing of a schema that the pass doesn't know.
use Rattle.std.proofs.Common.{Bool, true, false, ◌≡◌, ◌∙◌, Option, sym, subst}
use Rattle.rec_data.specs.declared.schema.SchemaDef.{SchemaDef}
use Rattle.history_ids.specs.declared.describing.KeptSchema.{KeptSchema}
use Rattle.feed_lane.specs.declared.lane.Lane.{Lane}
use Rattle.history_ids.specs.FeedContents.{no_schema}
use Rattle.feed_lane.specs.Kept.{IsKnown}
use Rattle.feed_lane.specs.Steps.{KeepsLists, KeepsAs}

pub keeps_on : (before now after : Lane) → KeepsAs before now → KeepsAs now after → KeepsAs before after
keeps_on before now after first second = (second.0 ∙ first.0, second.1 ∙ first.1)

pub keeps_listed : (before now : Lane) (listed : Bool) → KeepsLists before listed → KeepsAs before now → KeepsLists now listed
keeps_listed before now listed was same = (same.0 ∙ was.0, same.1 ∙ was.1)

not_true : false ≡ true → ⊥
not_true e = cc

pub unknown : (knows : Option SchemaDef → Type 0) (kept : KeptSchema) → kept ≡ no_schema → IsKnown knows kept
unknown knows kept none = subst (IsKnown knows) (sym none) (λ yes. absurd (not_true yes))
