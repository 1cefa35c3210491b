use Rattle.std.proofs.Common.{ap, map, rules, ◌∙◌}
use Rattle.std.proofs.lemmas.Fn.{dedup_same}
use Rattle.time_player.specs.Heads.{shown_in}
use Rattle.time_player.proofs.Parts.{same_head, doubles_dropped, fewer_within}
use Rattle.time_player.proofs.kept.Kept.drop_doubles.Goals as goal

pub invariant_of-self : goal.invariant_of-self
invariant_of-self c = record { within = fewer_within c.args.self.now.heads.items c.dedup_by_key.new.self.items _ (dedup_same _ same_head _ (λ x y b f' x' y' k. search rules) _ _ c.dedup_by_key.ensures.filtered) c.args.self.now.within }

pub returns : goal.returns
returns c =
    let payloads = c.args.self.now.payloads.items in
    ap (map (shown_in payloads)) (dedup_same _ same_head _ (λ x y b f' x' y' k. search rules) _ _ c.dedup_by_key.ensures.filtered) ∙ doubles_dropped payloads c.args.self.now.heads.items
