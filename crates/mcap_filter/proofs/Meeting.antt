-- What both of two ask for.
use Rattle.std.proofs.Common.{◌≡◌, ℕ, Bool, true, false, ◌&&◌, List, Option, Some, None, refl, sym, ap, inl, inr, ◌∙◌, arith}
use Rattle.std.specs.Prelude.{nat_le, nat_lt, max, min}
use Rattle.mcap_model.specs.declared.replay.Range.{Range}
use Rattle.mcap_model.specs.Scan.{is_within, is_before_end}
use Rattle.mcap_filter.specs.Picked.{is_topic}
use Rattle.mcap_filter.specs.FilteredHistories.{sooner, meeting, TopicsMeet, AskingsMeet}

start_both : (a b time : ℕ) → nat_le (max a b) time ≡ (nat_le a time && nat_le b time)
start_both a b time = grind arith

end_both : (a b time : ℕ) → nat_lt time (min a b) ≡ (nat_lt time a && nat_lt time b)
end_both a b time = grind arith

and_true : (b : Bool) → b ≡ (b && true)
and_true true = refl
and_true false = refl

ends_both : (one other : Option ℕ) (time : ℕ) → is_before_end (sooner one other) time ≡ (is_before_end one time && is_before_end other time)
ends_both None other time = refl
ends_both (Some end) None time = and_true (nat_lt time end)
ends_both (Some end) (Some other) time = end_both end other time

four : (a b c d : Bool) → ((a && b) && (c && d)) ≡ ((a && c) && (b && d))
four true true c d = refl
four true false true d = refl
four true false false d = refl
four false b c d = refl

within_both : (one other : Range) (time : ℕ) → is_within (meeting one other) time ≡ (is_within one time && is_within other time)
within_both one other time =
    ap (λ (b : Bool). b && is_before_end (sooner one.end other.end) time) (start_both one.start other.start time)
    ∙ ap (λ (b : Bool). (nat_le one.start time && nat_le other.start time) && b) (ends_both one.end other.end time)
    ∙ four (nat_le one.start time) (nat_le other.start time) (is_before_end one.end time) (is_before_end other.end time)

and_same : (b : Bool) → b ≡ (b && b)
and_same true = refl
and_same false = refl

topics_both : (one other both : Option (List ℕ)) → TopicsMeet one other both → (topic : List ℕ) → is_topic both topic ≡ (is_topic one topic && is_topic other topic)
topics_both one other both (inl (first, second)) topic =
    and_same (is_topic both topic) ∙ ap (λ (o : Option (List ℕ)). is_topic o topic && is_topic both topic) (sym first) ∙ ap (λ (o : Option (List ℕ)). is_topic one topic && is_topic o topic) (sym second)
topics_both one other both (inr (inl (first, second))) topic =
    ap (λ (o : Option (List ℕ)). is_topic o topic && is_topic both topic) (sym first) ∙ ap (λ (o : Option (List ℕ)). is_topic one topic && is_topic o topic) (sym second)
topics_both one other both (inr (inr (first, second))) topic =
    and_true (is_topic both topic) ∙ ap (λ (o : Option (List ℕ)). is_topic both topic && is_topic o topic) (sym second) ∙ ap (λ (o : Option (List ℕ)). is_topic o topic && is_topic other topic) (sym first)

pub askings_meet : AskingsMeet
askings_meet range other_range topic other_topic both meet = record { times = within_both range other_range; topics = topics_both topic other_topic both meet }
