-- What a list has of its members.
use Rattle.std.specs.Prelude.{◌≡◌, ℕ, ◌≤◌, List, length, Bool, true, false, vec_capacity}
use Rattle.feed_lane.specs.declared.store.Store.{Store}
use Rattle.feed_lane.specs.declared.store.Store.TheVariants as stores
use Rattle.feed_lane.specs.Listings.{most_counted}

-- the members are there
abbrev pub is_kept : {X : Type 0} → Store X → Bool
is_kept (stores.Kept kept) = true
is_kept (stores.Counted count) = false

abbrev pub room_in : {X : Type 0} → Store X → ℕ
room_in (stores.Kept kept) = vec_capacity kept
room_in (stores.Counted count) = most_counted

-- it has these members, or their number
abbrev pub HasMembers : {X : Type 0} → Store X → List X → Type 0
HasMembers (stores.Kept kept) items = kept.items ≡ items
HasMembers (stores.Counted count) items = (count ≡ length items) × (count ≤ most_counted)
