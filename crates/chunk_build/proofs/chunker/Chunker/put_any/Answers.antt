use Rattle.std.proofs.Common.{◌-◌, length, refl, arith}
use Rattle.chunk_build.proofs.Putting.{sound_more, before_fits, behind_fits, stays_short, stays_near, put_all}
use Rattle.chunk_build.proofs.chunker.Chunker.put_any.Goals as goal

pub settle-requires-clause-sound : goal.settle-requires-clause-sound
settle-requires-clause-sound c = sound_more c.prepare.new.chunk c.add_bytes.new.out _ c.add_bytes.ensures.items c.in-Ok.ensures.ready.begun c.prepare.ensures.sound

pub settle-requires-clause-before : goal.settle-requires-clause-before
settle-requires-clause-before c = before_fits c.prepare.new.chunk c.len.result (omega (arith, c.len.ensures, c.prepare.new.chunk.bytes.ok.0)) c.prepare.ensures.sound

pub settle-requires-clause-behind : goal.settle-requires-clause-behind
settle-requires-clause-behind c =
    behind_fits c.prepare.new.chunk.bytes.items c.add_bytes.new.out.items _ c.mark_of_bytes-mark.result c.len.result (omega (arith, c.len.ensures, c.prepare.new.chunk.bytes.ok.0))
    c.add_bytes.ensures.items c.in-Ok.ensures.ready.begun c.mark_of_bytes-mark.ensures.long

pub invariant_of-self-2 : goal.invariant_of-self-2
invariant_of-self-2 c = record {
  sound = c.settle.ensures.sound;
  small = c.self.invariant.small;
  short = stays_short c.self.inside.size c.self.inside.span (length c.args.bytes.now) c.prepare.new.chunk c.settle.new.chunk c.add_bytes.new.out _ c.mark_of_bytes-mark.result (c.len.result - 49) c.in-Ok.ready c.settle.result
      c.add_bytes.ensures.items refl (omega (arith, c.self.invariant.short)) c.in-Ok.ensures.ready c.settle.ensures.settled;
  near = stays_near c.self.inside.size c.self.inside.span (length c.args.bytes.now) c.self.inside.chunk c.prepare.new.chunk c.settle.new.chunk c.add_bytes.new.out c.mark_of_bytes-mark.result (c.len.result - 49) c.in-Ok.ready c.settle.result
      c.self.invariant.near c.prepare.ensures.same c.in-Ok.ensures.ready c.settle.ensures.settled;
}

pub returns-clause-put : goal.returns-clause-put
returns-clause-put c r is =
    put_all c.self.inside.size c.self.inside.span (length c.args.bytes.now) c.len.result c.self.inside.chunk c.prepare.new.chunk c.settle.new.chunk c.add_bytes.new.out r _ c.mark_of_bytes-mark.result c.in-Ok.ready c.settle.result c.args.self.now
    c.self.view_is c.self.invariant.near is.inner c.prepare.ensures.same c.add_bytes.ensures.items is.framed.spelled (c.mark_of_bytes-mark.ensures.mark r is.framed) (omega (arith, c.len.ensures, c.prepare.new.chunk.bytes.ok.0)) refl
    c.in-Ok.ensures.ready c.settle.ensures.settled
