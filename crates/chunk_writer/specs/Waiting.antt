-- The extras that wait for the end of their file.
use Rattle.std.specs.Prelude.{◌≡◌, ℕ, List, All}
use Rattle.rec_data.specs.Owned.{IsExtraContent}
use Rattle.mcap_model.specs.Tops.{Top, top_bytes}
use Rattle.mcap_model.specs.ReadBack.{IsExtra}
use Rattle.chunk_writer.specs.declared.extras.Extras.TheInside.{Inside}

abbrev pub framed_in : Inside → List (List ℕ)
framed_in e = e.framed.items

-- the bytes are those of an extra, which keeps its rules
abbrev pub AreExtra : List ℕ → Type 0
AreExtra framed = (t : Top) × (framed ≡ top_bytes t) × IsExtra t

-- the bytes are those of an extra whose content meets its layout
abbrev pub AreAside : List ℕ → Type 0
AreAside framed = (t : Top) × (framed ≡ top_bytes t) × IsExtraContent t.op t.content

abbrev pub AreExtras : Inside → Type 0
AreExtras e = All AreExtra (framed_in e)
