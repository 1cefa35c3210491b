-- The first Channels of a summary.
use Rattle.std.proofs.Common.{◌≡◌, ℕ, zero, suc, ◌+◌, ◌<◌, ◌≤◌, List, [], ◌∷◌, ◌++◌, length, drop, refl, sym, ap, subst, inl, inr, ◌∙◌, arith}
use Rattle.std.proofs.lemmas.Bool.{cases_lt}
use Rattle.std.proofs.lemmas.List.{length-append, drop_at}
use Rattle.std.proofs.lemmas.Option.{same_Some}
use Rattle.mcap_wire.specs.Layout.{le, framed}
use Rattle.mcap_wire.proofs.Numbers.{length-le}
use Rattle.rec_data.specs.Fields.{ChannelFields}
use Rattle.rec_data.specs.Records.{channel_text, ShowsChannel}
use Rattle.mcap_model.specs.declared.table.Declared.{Declared}
use Rattle.mcap_model.specs.Places.{At}
use Rattle.mcap_model.specs.Tops.{Top}
use Rattle.mcap_model.specs.Made.{top}
use Rattle.mcap_model.specs.Fields.{IsChannel}
use Rattle.mcap_model.proofs.Places.{at_none, at_last, at_kept}
use Rattle.mcap_model.proofs.Lists.{at_either}
use Rattle.mcap_model.proofs.Maps.{shows_once}
use Rattle.indexed_replay.specs.Gathering.{IsFirstChannel, FirstChannels}

longer : (tops : List Top) (i k id : ℕ) (topic : List ℕ) → i ≤ k → IsFirstChannel tops i id topic → IsFirstChannel tops k id topic
longer tops i k id topic few is = record { place = is.place; within = (let within = is.within in omega (arith, few, within)); top = is.top; shown = is.shown; at = is.at; is = is.is; first = is.first; topic_is = is.topic_is }

-- a record at the next place, or before
at_or : (tops : List Top) (i n : ℕ) (t u : Top) → At tops i t → At tops n u → n < i + 1 → (n < i → ⊥) → u ≡ t
at_or tops i n t u at at_u less before = elim (cases_lt n i) [
  | inl less ↦ absurd (before less)
  | inr more ↦ let same : n ≡ i = omega (arith, less, more) in sym (same_Some t u (sym at ∙ ap (λ (m : ℕ). Rattle.std.specs.Prelude.slice_get tops m) (sym same) ∙ at_u))
]

module _ (tops : List Top) (i : ℕ) (t : Top) (id : ℕ) (f : ChannelFields) (at : At tops i t) (is : IsChannel t id f) where
  covered : (old new : List Declared) → FirstChannels tops i old → ((k : ℕ) (d : Declared) → At old k d → At new k d) → ((k : ℕ) × (d : Declared) × At new k d × (d.id ≡ id))
      → (n : ℕ) (u : Top) (other : ℕ) (g : ChannelFields) → n < i + 1 → At tops n u → IsChannel u other g → (k : ℕ) × (d : Declared) × At new k d × (d.id ≡ other)
  covered old new were kept (k, d, there, same) n u other g less at_u is_u = elim (cases_lt n i) [
    | inl before ↦ let covers = were.covers in let (k', d', there', same') = covers n u other g before at_u is_u in (k', d', kept k' d' there', same')
    | inr behind ↦
        let own = at_or tops i n t u at at_u less (λ before. omega (arith, before, behind)) in
        let once = shows_once t other id g f (subst (λ (v : Top). IsChannel v other g) own is_u) is in
        (k, d, there, same ∙ sym once.0)
  ]

  pub known_channel : (channels : List Declared) → ((k : ℕ) × (d : Declared) × At channels k d × (d.id ≡ id)) → FirstChannels tops i channels → FirstChannels tops (i + 1) channels
  known_channel channels there were = record {
    declare = were.declare;
    first = λ k d g at_d is_d. let first = were.first in longer tops i (i + 1) d.id g.topic (omega arith) (first k d g at_d is_d);
    covers = covered channels channels were (λ k d here. here) there;
  }

  pub channel_shows : ShowsChannel (channel_text id f) id f
  channel_shows = let layout = is.layout in let row = layout.1 in ([], record { spelled_there = refl; fit = row.fit })

  abbrev added : Declared
  added = record { id = id; content = channel_text id f }

  -- a declaration that was there, or the new one
  either : (old : List Declared) (k : ℕ) (d : Declared) → At (old ++ added ∷ []) k d → (P : Declared → Type 0) → ((j : ℕ) → At old j d → P d) → P added → P d
  either old k d here P first last = elim (at_either old (added ∷ []) k d here) [
    | inl there ↦ first k there
    | inr (j, same, there) ↦ alone j there
  ]
    where
      alone : (j : ℕ) → At (added ∷ []) j d → P d
      alone zero there = subst P (same_Some added d there) last
      alone (suc j) there = absurd (at_none j d there)

  pub new_channel : (old new : List Declared) → ((k : ℕ) (d : Declared) → At old k d → d.id ≡ id → ⊥) → new ≡ old ++ added ∷ [] → FirstChannels tops i old → FirstChannels tops (i + 1) new
  new_channel old new none joined were = subst (FirstChannels tops (i + 1)) (sym joined) (record {
    declare = record {
      are = λ k d here. either old k d here (λ e. (g : ChannelFields) × IsChannel (top 4 e.content) e.id g) (λ j there. let declare = were.declare in let are = declare.are in are j d there) (f, record { kind = refl; layout = channel_shows });
      apart = λ j k d e at_d at_e same.
          let declare = were.declare in
          let apart = declare.apart in
          either old j d at_d (λ x. x.id ≡ e.id → x ≡ e)
          (λ m there one. either old k e at_e (λ y. d.id ≡ y.id → d ≡ y) (λ n here. apart m n d e there here) (λ last. absurd (none m d there last)) one)
          (λ one. either old k e at_e (λ y. id ≡ y.id → added ≡ y) (λ n here other. absurd (none n e here (sym other))) (λ last. refl) one)
          same;
    };
    first = λ k d g at_d is_d. either old k d at_d (λ e. IsChannel (top 4 e.content) e.id g → IsFirstChannel tops (i + 1) e.id g.topic)
        (λ j there own. let first = were.first in longer tops i (i + 1) d.id g.topic (omega arith) (first j d g there own))
        (λ own.
        let once = shows_once (top 4 (channel_text id f)) id id f g (record { kind = refl; layout = channel_shows }) own in
        record {
          place = i;
          within = omega arith;
          top = t;
          shown = f;
          at = at;
          is = is;
          first = λ n u h less at_u is_u. let covers = were.covers in let (k', d', there', same') = covers n u id h less at_u is_u in none k' d' there' same';
          topic_is = ap (λ (h : ChannelFields). h.topic) once.1;
        })
        is_d;
    covers = covered old (old ++ added ∷ []) were (λ k d here. at_kept old (added ∷ []) k d here) (length old, added, at_last old added [], refl);
  })

pub framed_content : (items old content : List ℕ) (op : ℕ) → items ≡ old ++ framed op content → old ≡ [] → (drop 9 items ≡ content) × (9 ≤ length items)
framed_content items old content op is none =
    let all : items ≡ framed op content = is ∙ ap (λ (l : List ℕ). l ++ framed op content) none in (
      ap (drop 9) all ∙ drop_at (op ∷ le 8 (length content)) content 9 (omega (arith, length-le 8 (length content))),
      omega (arith, ap length all, length-append (le 8 (length content)) content, length-le 8 (length content)),
    )
