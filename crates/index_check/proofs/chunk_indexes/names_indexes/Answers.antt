use Rattle.std.proofs.Common.{ap, length, false, refl, sym, subst, inl, inr, ◌∙◌}
use Rattle.std.proofs.lemmas.Bool.{both_ways}
use Rattle.std.proofs.lemmas.List.{nil_from_length}
use Rattle.index_check.specs.Chunks.{AreNoted, NamesAllNotes}
use Rattle.index_check.proofs.chunk_indexes.names_indexes.Goals as goal

pub returns-then-count-eq0 : goal.returns-then-count-eq0
returns-then-count-eq0 c =
    (λ e. inl (nil_from_length c.args.index.now.message_index_offsets (sym c.count.ensures.count ∙ c.if-count-eq0.true)), λ names. refl)

pub returns-then-index-note : goal.returns-then-index-note
returns-then-index-note c = (
  λ e. absurd (both_ways false refl e),
  λ names. elim names [
    | inl none ↦ absurd (c.if-count-eq0.false (c.count.ensures.count ∙ ap length none))
    | inr told ↦ absurd (c.if-index-note.true told.0)
  ],
)

pub returns-then-not-are_noted : goal.returns-then-not-are_noted
returns-then-not-are_noted c = (
  λ e. absurd (both_ways false refl e),
  λ names. elim names [
    | inl none ↦ absurd (c.if-count-eq0.false (c.count.ensures.count ∙ ap length none))
    | inr told ↦ absurd (both_ways c.are_noted.result c.if-not-are_noted.true (c.are_noted.ensures.1 (subst (AreNoted c.args.index.now.message_index_offsets) (sym c.deref.ensures.value) told.1)))
  ],
)

pub returns : goal.returns
returns c = (
  λ e. inr (
    c.if-index-note.false,
    subst (AreNoted c.args.index.now.message_index_offsets) c.deref.ensures.value (c.are_noted.ensures.0 c.if-not-are_noted.false),
    subst (NamesAllNotes c.args.index.now.message_index_offsets) c.deref-2.ensures.value (c.are_named.ensures.0 e),
  ),
  λ names. elim names [
    | inl none ↦ absurd (c.if-count-eq0.false (c.count.ensures.count ∙ ap length none))
    | inr told ↦ c.are_named.ensures.1 (subst (NamesAllNotes c.args.index.now.message_index_offsets) (sym c.deref-2.ensures.value) told.2)
  ],
)
