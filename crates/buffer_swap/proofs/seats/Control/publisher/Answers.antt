use Rattle.std.proofs.Common.{rules}
use Rattle.buffer_swap.proofs.Keeps.{hires_seat}
use Rattle.buffer_swap.proofs.seats.Control.publisher.Goals as goal

pub split_seat-seat-requires : goal.split_seat-seat-requires
split_seat-seat-requires c = (c.args.self.now.fits, search rules, hires_seat _ _ c.args.self.now.controls c.args.self.now.drains c.args.self.now.seated)
