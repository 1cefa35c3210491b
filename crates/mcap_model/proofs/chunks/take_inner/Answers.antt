use Rattle.std.proofs.Common.{◌≤◌, ◌++◌, ℕ, refl, sym, subst, arith}
use Rattle.mcap_model.specs.Fields.{IsMessage}
use Rattle.mcap_model.specs.Made.{top}
use Rattle.mcap_model.specs.Chunked.{flat_of}
use Rattle.mcap_model.proofs.Meets.{message_meets}
use Rattle.mcap_model.proofs.Agreeing.{other_more}
use Rattle.mcap_model.proofs.Spans.{times_other, times_with}
use Rattle.mcap_model.proofs.Inside.{flat_inner, unknown_inner}
use Rattle.mcap_model.proofs.chunks.take_inner.Goals as goal

pub returns-in-Fits : goal.returns-in-Fits
returns-in-Fits c = λ before inner was spans.
    let j = c.in-Fits.ensures (before ++ flat_of inner) was in
    let is = flat_inner before inner c.args.op 3 c.args.content.now c.take_schema.new.self c.in-3.is refl refl j.0 j.1 j.2 in
    (is.0, is.1, times_other inner (top c.args.op c.args.content.now) c.args.times spans (λ e. omega (arith, e, c.in-3.is)))

pub returns-in-Fits-take_channel : goal.returns-in-Fits-take_channel
returns-in-Fits-take_channel c = λ before inner was spans.
    let j = c.in-Fits-take_channel.ensures (before ++ flat_of inner) was in
    let is = flat_inner before inner c.args.op 4 c.args.content.now c.take_channel.new.self c.in-4.is refl refl j.0 j.1 j.2 in
    (is.0, is.1, times_other inner (top c.args.op c.args.content.now) c.args.times spans (λ e. omega (arith, e, c.in-4.is)))

pub returns-in-Ok : goal.returns-in-Ok
returns-in-Ok c = λ before inner was spans.
    let h = c.in-Ok.ensures (before ++ flat_of inner) was in
    let t = top 5 c.args.content.now in
    let more = other_more (before ++ flat_of inner) c.args.tables.now t was (λ e. omega (arith, e)) (λ e. omega (arith, e)) in
    let is = flat_inner before inner c.args.op 5 c.args.content.now c.args.tables.now c.in-5.is refl refl (message_meets t h.channel h.message h.is) h.agrees more in
    let w = c.with.ensures in (
      is.0,
      is.1,
      times_with inner (top c.args.op c.args.content.now) c.args.times c.with.result h.channel h.message c.in-Ok.time spans
          (subst (λ (n : ℕ). IsMessage (top n c.args.content.now) h.channel h.message) (sym c.in-5.is) h.is) h.then
          (record { any = w.any; first_least = w.first_least; first_greatest = w.first_greatest; least = w.least; greatest = w.greatest }),
    )

pub returns-in-16-to-255 : goal.returns-in-16-to-255
returns-in-16-to-255 c = λ before inner was spans.
    let high : 16 ≤ c.args.op = omega arith in
    let is = unknown_inner before inner c.args.op c.args.content.now c.args.tables.now high was in
    (is.0, is.1, times_other inner (top c.args.op c.args.content.now) c.args.times spans (λ e. omega (arith, e, high)))
