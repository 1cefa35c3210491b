-- What options say, by what was found for them.
use Rattle.std.proofs.Common.{◌≡◌, ◌≤◌, ℕ, Bool, List, [], Option, Some, None, codes, length, refl, sym, ap, subst, inl, inr, ◌∙◌, ◌∷◌, arith}
use Rattle.std.specs.Prelude.{MatchOption, unwrap_or}
use Rattle.std.specs.Borrow.{Bor}
use Rattle.std.specs.Option.{option_to_list}
use Rattle.std.proofs.lemmas.Str.Pattern.{IsSplitOnceResult, split_after}
use Rattle.clap.specs.Values.{bool_text}
use Rattle.clap.specs.Words.{Row, first_of, one_of}
use Rattle.mcap_model.specs.declared.replay.Range.{Range}
use Rattle.command_words.specs.Items.{Word, Item, given}
use Rattle.command_words.specs.Commands.{Flags, GivesNumber, GivesSpan, HasChunks, HasProfile, HasWatchers, IsRange, IsSpan, MayWatch, SizesChunks, synopsis_of, watchers_with, whole_time}
use Rattle.command_words.specs.Matches.{ParsesInto, Selects}
use Rattle.command_words.specs.Synopses.{Synopsis}
use Rattle.command_words.specs.declared.verbs.Verb.TheVariants as verb
use Rattle.command_words.proofs.OneCommand.{no_colon, one_flag, one_given_span, one_number, one_value}

-- the flag of the code is what was found
abbrev IsShown : List Row → Word → Bool → Type 0
IsShown rows name flag = (is_there : Bool) → one_of name rows ≡ Some (bool_text is_there) → flag ≡ is_there

-- the parts of a word round its first colon are those of the times
pub parts_of_span : (word : Word) (span : Range) (is : IsSpan word span) (parts : Option (Bor Word × Bor Word)) → IsSplitOnceResult 58 word parts → MatchOption parts ⊥ (λ x. (x.0.now ≡ is.start_word) × (x.1.now ≡ is.end_word))
parts_of_span word span is parts cut = split_after 58 word is.start_word is.end_word parts cut (omega arith) is.form (no_colon is.start_word is.started.digits)

module _ (rows : List Row) (items : List Item) (places : List Word) (shows : ParsesInto (synopsis_of verb.Record) items places rows) where
  flag_given : (flag : Bool) → IsShown rows (codes "plain") flag → Flags (given (codes "plain") items) flag
  flag_given flag shown = let one = shows.flags (codes "plain") (inl refl) in subst (Flags (given (codes "plain") items)) (sym (shown one.0 one.2)) one.1

  pub chunks_are : (flag : Bool) (size chunk : Option ℕ) → IsShown rows (codes "plain") flag → GivesNumber 1 67108864 (option_to_list (first_of (codes "chunk") rows)) size → SizesChunks flag size chunk → HasChunks items chunk
  chunks_are flag size chunk shown gives sizes = record {
    is_plain = flag;
    plain = flag_given flag shown;
    size = size;
    sized = subst (λ (l : List Word). GivesNumber 1 67108864 l size) (sym (shows.options (codes "chunk") (inr (inl refl)))) gives;
    sizes = sizes;
  }

  pub chunks_given : (chunk : Option ℕ) (is : HasChunks items chunk) → GivesNumber 1 67108864 (option_to_list (first_of (codes "chunk") rows)) is.size
  chunks_given chunk is = subst (λ (l : List Word). GivesNumber 1 67108864 l is.size) (shows.options (codes "chunk") (inr (inl refl))) is.sized

  pub chunks_sized : (flag : Bool) (size chunk : Option ℕ) → IsShown rows (codes "plain") flag → GivesNumber 1 67108864 (option_to_list (first_of (codes "chunk") rows)) size → HasChunks items chunk → SizesChunks flag size chunk
  chunks_sized flag size chunk shown gives is =
      let same = one_flag (given (codes "plain") items) flag is.is_plain (flag_given flag shown) is.plain in
      let same2 = one_number 1 67108864 (option_to_list (first_of (codes "chunk") rows)) size is.size gives (chunks_given chunk is) in
      subst (λ (f : Bool). SizesChunks f size chunk) same (subst (λ (n : Option ℕ). SizesChunks is.is_plain n chunk) same2 is.sizes)

  pub profile_is : (profile : Word) → profile ≡ unwrap_or (first_of (codes "profile") rows) [] → length profile ≤ 65535 → HasProfile items profile
  profile_is profile is short = record { value = first_of (codes "profile") rows; once = shows.options (codes "profile") (inr (inr (inl refl))); is = is; short = short }

  pub profile_only : (profile other : Word) → profile ≡ unwrap_or (first_of (codes "profile") rows) [] → HasProfile items other → other ≡ profile
  profile_only profile other is has =
      let same : has.value ≡ first_of (codes "profile") rows = one_value (first_of (codes "profile") rows) has.value (sym (shows.options (codes "profile") (inr (inr (inl refl)))) ∙ has.once) in
      has.is ∙ ap (λ (v : Option Word). unwrap_or v []) same ∙ sym is

  -- what stands for --watch and --watchers
  of_watch : given (codes "watch") items ≡ option_to_list (first_of (codes "watch") rows)
  of_watch = shows.options (codes "watch") (inr (inr (inr (inl refl))))

  of_watchers : given (codes "watchers") items ≡ option_to_list (first_of (codes "watchers") rows)
  of_watchers = shows.options (codes "watchers") (inr (inr (inr (inr (inl refl)))))

  pub watching_is : (flag : Bool) (span : Option Range) (number : Option ℕ) → IsShown rows (codes "plain") flag → GivesSpan (option_to_list (first_of (codes "watch") rows)) span
      → GivesNumber 0 16 (option_to_list (first_of (codes "watchers") rows)) number → MayWatch flag span number → HasWatchers items (unwrap_or span whole_time) (watchers_with number span)
  watching_is flag span number shown spanned numbered may = record {
    is_plain = flag;
    plain = flag_given flag shown;
    span = span;
    spanned = subst (λ (l : List Word). GivesSpan l span) (sym of_watch) spanned;
    number = number;
    numbered = subst (λ (l : List Word). GivesNumber 0 16 l number) (sym of_watchers) numbered;
    may = may;
    range_is = refl;
    watchers_are = refl;
  }

  pub watching_given : (range : Range) (count : ℕ) (is : HasWatchers items range count) → GivesSpan (option_to_list (first_of (codes "watch") rows)) is.span × GivesNumber 0 16 (option_to_list (first_of (codes "watchers") rows)) is.number
  watching_given range count is = (
    subst (λ (l : List Word). GivesSpan l is.span) of_watch is.spanned,
    subst (λ (l : List Word). GivesNumber 0 16 l is.number) of_watchers is.numbered,
  )

  pub watching_may : (flag : Bool) (span : Option Range) (number : Option ℕ) → IsShown rows (codes "plain") flag → GivesSpan (option_to_list (first_of (codes "watch") rows)) span
      → GivesNumber 0 16 (option_to_list (first_of (codes "watchers") rows)) number → (range : Range) (count : ℕ) → HasWatchers items range count → MayWatch flag span number
  watching_may flag span number shown spanned numbered range count is =
      let gives = watching_given range count is in
      let plains : flag ≡ is.is_plain = one_flag (given (codes "plain") items) is.is_plain flag is.plain (flag_given flag shown) in
      let spans : span ≡ is.span = one_given_span (option_to_list (first_of (codes "watch") rows)) is.span span gives.0 spanned in
      let numbers : number ≡ is.number = one_number 0 16 (option_to_list (first_of (codes "watchers") rows)) is.number number gives.1 numbered in
      rw (plains, spans, numbers) is.may

-- a word that is given, but stands for no times
pub no_given_span : (word : Word) (value : Option Word) (span : Option Range) → Some word ≡ value → ((s : Range) → IsSpan word s → ⊥) → GivesSpan (option_to_list value) span → ⊥
no_given_span word None span is bad gives = cc
no_given_span word (Some w) None is bad gives = let wrong : w ∷ [] ≡ [] = gives in cc
no_given_span word (Some w) (Some s) is bad (other, gives, span) =
    let first : word ≡ w = cc in
    let second : w ≡ other = cc in
    bad s (subst (λ (v : Word). IsSpan v s) (sym (first ∙ second)) span)

module _ (v : Synopsis) (selects : Selects v) (rows : List Row) (items : List Item) (places : List Word) (shows : ParsesInto v items places rows) where
  pub range_is : (start : Option ℕ) (range : Range) → GivesNumber 0 18446744073709551615 (option_to_list (first_of (codes "start") rows)) start → range.start ≡ unwrap_or start 0
      → GivesNumber 0 18446744073709551615 (option_to_list (first_of (codes "end") rows)) range.end → IsRange items range
  range_is start range started from ended = record {
    start = start;
    started = subst (λ (l : List Word). GivesNumber 0 18446744073709551615 l start) (sym (shows.options (codes "start") selects.0)) started;
    from = from;
    ended = subst (λ (l : List Word). GivesNumber 0 18446744073709551615 l range.end) (sym (shows.options (codes "end") selects.1)) ended;
  }

  pub range_given : (range : Range) (is : IsRange items range) → GivesNumber 0 18446744073709551615 (option_to_list (first_of (codes "start") rows)) is.start × GivesNumber 0 18446744073709551615 (option_to_list (first_of (codes "end") rows)) range.end
  range_given range is = (
    subst (λ (l : List Word). GivesNumber 0 18446744073709551615 l is.start) (shows.options (codes "start") selects.0) is.started,
    subst (λ (l : List Word). GivesNumber 0 18446744073709551615 l range.end) (shows.options (codes "end") selects.1) is.ended,
  )
