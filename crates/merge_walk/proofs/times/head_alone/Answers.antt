use Rattle.std.proofs.Common.{ℕ, ◌≤◌, Bool, List, [], ◌∷◌, length, cond, ap, ◌∙◌, rules}
use Rattle.std.proofs.lemmas.Bool.{le-leb}
use Rattle.mcap_wire.proofs.Fields.{number_there}
use Rattle.mcap_model.specs.Made.{top}
use Rattle.mcap_scan.specs.declared.message_heads.MessageHead.{MessageHead}
use Rattle.mcap_scan.specs.Heads.{head_of}
use Rattle.mcap_scan.specs.HeadTimes.{time_in}
use Rattle.merge_walk.specs.SpanHeads.{set_at}
use Rattle.merge_walk.proofs.times.head_alone.Goals as goal

pub returns : goal.returns
returns c =
    let content = c.args.content.now in
    let long : 22 ≤ length content = search rules in
    let made : ℕ → ℕ → List MessageHead = λ channel time. record { channel = channel; time = time; offset = 0 } ∷ [] in
    ap (λ (b : Bool). cond b (head_of (set_at 0 (top 5 content)) ∷ []) []) (le-leb 22 (length content) long)
    ∙ ap (λ (n : ℕ). made n (time_in content)) (number_there 2 content 0 c.in-Ok.channel _ c.in-Ok.ensures)
    ∙ ap (made c.in-Ok.channel) (number_there 8 content 6 c.in-Ok-take_u64.time _ c.in-Ok-take_u64.ensures)
