use Rattle.mcap_crc.proofs.Folding.{folded}
use Rattle.mcap_crc.proofs.Nibbles.{lane_fits}
use Rattle.mcap_crc.proofs.folded.fold_first.Goals as goal

pub returns : goal.returns
returns c =
    rw (c.look_up.ensures, c.look_up-2.ensures, c.look_up-3.ensures, c.look_up-4.ensures)
    (folded c.args.first c.args.second c.args.third c.args.fourth c.args.fifth c.args.next
    c.fits-first.0 c.fits-second.0 c.fits-third.0 c.fits-fourth.0 c.fits-fifth.0 c.fits-next.0
    (λ i. lane_fits c.args.first i c.fits-first.1))
