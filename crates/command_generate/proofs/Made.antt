-- What is left of a feed of which a record is made.
use Rattle.std.proofs.Common.{◌≡◌, ℕ, suc, ◌+◌, ◌-◌, ◌<◌, List, [], ◌++◌, drop, map, Result, Ok, Err, OnOk, OnErr, Bool, false, sym, ap, ◌∙◌, append_assoc, arith}
use Rattle.mcap_model.specs.Tops.{top_bytes, spelled}
use Rattle.command_generate.specs.Generator.{next_state, upper_bits, generated_message, messages_from}
use Rattle.command_generate.specs.Feeds.{message_top, end_top}
use Rattle.command_generate.specs.Unread.{unmade, left_to_read}

-- what went well, since it couldn't be refused
pub made_well : {T E P Q : Type 0} (r : Result T E) → OnOk r P → OnErr r Q → (Q → ⊥) → P
made_well (Ok v) well full room = well
made_well (Err e) well full room = absurd (room full)

-- a message is made
pub message_left : (all made state : ℕ) (waiting : List ℕ) (from : ℕ) → drop from waiting ≡ [] → made < all
    → left_to_read ([] ++ top_bytes (message_top (generated_message made (upper_bits (next_state state))))) 0 (unmade false (all - (made + 1)) (made + 1) (next_state state)) ≡ left_to_read waiting from (unmade false (all - made) made state)
message_left all made state waiting from none less =
    let n = all - (made + 1) in
    let m = top_bytes (message_top (generated_message made (upper_bits (next_state state)))) in
    let rest = spelled (map message_top (messages_from n (made + 1) (next_state state))) in
    let step : suc n ≡ all - made = omega (arith, less) in
    sym (append_assoc m rest (top_bytes end_top))
    ∙ ap (λ (k : ℕ). unmade false k made state) step
    ∙ ap (λ (l : List ℕ). l ++ unmade false (all - made) made state) (sym none)

pub message_waits : (all made state state_new number : ℕ) (waiting cleared waiting_new : List ℕ) (from : ℕ) (ended : Bool) → ended ≡ false → state_new ≡ next_state state → number ≡ upper_bits state_new
    → cleared ≡ [] → waiting_new ≡ cleared ++ top_bytes (message_top (generated_message made number)) → drop from waiting ≡ [] → made < all
    → left_to_read waiting_new 0 (unmade ended (all - (made + 1)) (made + 1) state_new) ≡ left_to_read waiting from (unmade ended (all - made) made state)
message_waits all made state state_new number waiting cleared waiting_new from ended going next drawn clear waits none less =
    let n = all - (made + 1) in
    let m = [] ++ top_bytes (message_top (generated_message made (upper_bits (next_state state)))) in
    ap (λ (l : List ℕ). left_to_read l 0 (unmade ended n (made + 1) state_new)) (waits ∙ ap (λ (l : List ℕ). l ++ top_bytes (message_top (generated_message made number))) clear)
    ∙ ap (λ (u : ℕ). left_to_read ([] ++ top_bytes (message_top (generated_message made u))) 0 (unmade ended n (made + 1) state_new)) (drawn ∙ ap upper_bits next)
    ∙ ap (λ (b : Bool). left_to_read m 0 (unmade b n (made + 1) state_new)) going
    ∙ ap (λ (x : ℕ). left_to_read m 0 (unmade false n (made + 1) x)) next
    ∙ message_left all made state waiting from none less
    ∙ ap (λ (b : Bool). left_to_read waiting from (unmade b (all - made) made state)) (sym going)
