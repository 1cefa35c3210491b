-- The file that is looked for among inputs.
use Rattle.std.proofs.Common.{◌≡◌, Bool, true, false, eqb, ◌&&◌, refl, ap₂}
use Rattle.std.proofs.lemmas.Bool.{eqb-true}
use Rattle.io_files.specs.declared.inputs.FileId.{FileId}

-- two files of one device and one number are one
pub same_file : (a b : FileId) → (eqb a.device b.device && eqb a.inode b.inode) ≡ true → a ≡ b
same_file a b is = by (eqb a.device b.device) (eqb-true a.device b.device) is
  where
    by : (same : Bool) → (same ≡ true → a.device ≡ b.device) → (same && eqb a.inode b.inode) ≡ true → a ≡ b
    by true device is = ap₂ (λ d i. record { device = d; inode = i }) (device (refl)) (eqb-true a.inode b.inode is)
    by false device is = absurd (cc)
