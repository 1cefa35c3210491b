-- Numbers by the ids of channels.
use Rattle.std.specs.Prelude.{◌≡◌, ◌≢◌, ℕ, ◌+◌, ◌-◌, ◌^◌, min, List, slice_index}
use Rattle.mcap_model.specs.Places.{Has}
use Rattle.index_check.specs.Tally.{HasChannelCount}

-- the number of that channel is one more, and that of each other channel is as it was
pub record IsOneMore (old : List ℕ) (channel : ℕ) (new : List ℕ) : Type 0 where
  pub more : slice_index new channel ≡ min (slice_index old channel + 1) (2 ^ 64 - 1)
  pub others : (id : ℕ) → id ≢ channel → slice_index new id ≡ slice_index old id

-- the list gives each channel with a number other than 0 its number
pub record ListsCounts (counts : List ℕ) (list : List (ℕ × ℕ)) : Type 0 where
  pub right : (channel count : ℕ) → Has list (channel, count) → (count ≡ slice_index counts channel) × (count ≢ 0)
  pub all : (channel : ℕ) → slice_index counts channel ≢ 0 → HasChannelCount list channel
