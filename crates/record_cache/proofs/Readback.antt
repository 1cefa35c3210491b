-- Records that are framed are found again.
use Rattle.std.proofs.Common.{◌≡◌, Bool, ℕ, zero, suc, ◌^◌, ◌<◌, ◌≤◌, List, [], ◌∷◌, ◌++◌, length, take, drop, refl, ap, subst, ◌∙◌, append_assoc, arith}
use Rattle.std.specs.Prelude.{All, ◌==◌, if◌then◌else◌}
use Rattle.std.proofs.lemmas.Bool.{ne_eqb}
use Rattle.std.proofs.lemmas.List.{length-append}
use Rattle.std.proofs.Math.Seq.{take-append_seam, drop-append_seam}
use Rattle.mcap_wire.specs.Layout.{le, number, string}
use Rattle.mcap_wire.specs.Maps.{IsTextPair, IsTextMap, pair_texts}
use Rattle.mcap_wire.proofs.Numbers.{length-le}
use Rattle.mcap_wire.proofs.Framing.{length-string, length-framed}
use Rattle.rec_data.specs.declared.owned.Rec.{Rec}
use Rattle.rec_data.specs.declared.owned.Rec.TheVariants.{Schema, Channel, Message, Extra}
use Rattle.rec_data.specs.Owned.{rec_opcode, rec_text, rec_bytes, RecFits}
use Rattle.rec_data.specs.Records.{schema_text, channel_text, message_text}
use Rattle.rec_data.proofs.OwnedReading.{extra_not}
use Rattle.mcap_model.specs.History.{history_bytes}
use Rattle.mcap_model.proofs.Unpacking.{number_first}
use Rattle.record_cache.specs.Reading.{first_text, bytes_behind_text, pairs_within, schema_read, map_read, channel_read, message_read, record_read, records_within, records_shown}
use Rattle.record_cache.specs.KeptRecords.{IsKept}

-- ---- numbers and texts

dropped_front : (n : ℕ) (xs ys : List ℕ) → length xs ≡ n → drop n (xs ++ ys) ≡ ys
dropped_front n xs ys size = subst (λ (k : ℕ). drop k (xs ++ ys) ≡ ys) size (drop-append_seam xs ys)

number_behind : (n v : ℕ) (rest : List ℕ) → drop n (le n v ++ rest) ≡ rest
number_behind n v rest = dropped_front n (le n v) rest (length-le n v)

-- a text behind its length
abbrev Text_with : List ℕ → List ℕ → List ℕ
Text_with text rest = string text ++ rest

text_length : (text rest : List ℕ) → length text < 2 ^ 32 → number (take 4 (string text ++ rest)) ≡ length text
text_length text rest fits = ap (λ (l : List ℕ). number (take 4 l)) (append_assoc (le 4 (length text)) text rest) ∙ number_first 4 (length text) (text ++ rest) fits

text_parts : (text rest : List ℕ) → drop 4 (string text ++ rest) ≡ text ++ rest
text_parts text rest = ap (drop 4) (append_assoc (le 4 (length text)) text rest) ∙ number_behind 4 (length text) (text ++ rest)

text_first : (text rest : List ℕ) → length text < 2 ^ 32 → first_text (string text ++ rest) ≡ text
text_first text rest fits =
    ap (λ (n : ℕ). take n (drop 4 (string text ++ rest))) (text_length text rest fits)
    ∙ ap (take (length text)) (text_parts text rest) ∙ take-append_seam text rest

text_behind : (text rest : List ℕ) → length text < 2 ^ 32 → bytes_behind_text (string text ++ rest) ≡ rest
text_behind text rest fits =
    ap (λ (n : ℕ). drop n (drop 4 (string text ++ rest))) (text_length text rest fits)
    ∙ ap (drop (length text)) (text_parts text rest) ∙ drop-append_seam text rest

-- ---- maps

pairs_step : (n : ℕ) (bytes : List ℕ) → 0 < length bytes → pairs_within (suc n) bytes ≡ (first_text bytes, first_text (bytes_behind_text bytes)) ∷ pairs_within n (bytes_behind_text (bytes_behind_text bytes))
unfolding pairs_within
pairs_step n [] some = absurd (omega (arith, some))
pairs_step n (b ∷ bs) some = refl

pairs_none : (n : ℕ) → pairs_within n [] ≡ []
unfolding pairs_within
pairs_none zero = refl
pairs_none (suc n) = refl

abbrev pair_with : List ℕ → List ℕ → List (List ℕ × List ℕ) → List (List ℕ × List ℕ)
pair_with key value pairs = (key, value) ∷ pairs

pair_same : (a b c d : List ℕ) (xs ys : List (List ℕ × List ℕ)) → a ≡ b → c ≡ d → xs ≡ ys → pair_with a c xs ≡ pair_with b d ys
pair_same a b c d xs ys one two three = cc

pairs_found : (n : ℕ) (pairs : List (List ℕ × List ℕ)) → length pairs ≤ n → All IsTextPair pairs → pairs_within n (pair_texts pairs) ≡ pairs
pairs_found n [] few all = pairs_none n
pairs_found zero (p ∷ ps) few all = absurd (omega (arith, few))
pairs_found (suc n) (p ∷ ps) few all =
    let first : IsTextPair p = all 0 p (omega arith) in
    let key_fits = first.key.fits in
    let value_fits = first.value.fits in
    let rest = pair_texts ps in
    let spelled : pair_texts (p ∷ ps) ≡ string p.0 ++ (string p.1 ++ rest) = append_assoc (string p.0) (string p.1) rest in
    let bytes = string p.0 ++ (string p.1 ++ rest) in
    let some : 0 < length bytes = omega (arith, length-append (string p.0) (string p.1 ++ rest), length-string p.0) in
    let behind : bytes_behind_text bytes ≡ string p.1 ++ rest = text_behind p.0 (string p.1 ++ rest) key_fits in
    let later = pairs_found n ps (omega (arith, few)) (λ k d lt. all (suc k) d (omega (arith, lt))) in
    ap (pairs_within (suc n)) spelled ∙ pairs_step n bytes some
    ∙ pair_same (first_text bytes) p.0 (first_text (bytes_behind_text bytes)) p.1 (pairs_within n (bytes_behind_text (bytes_behind_text bytes))) ps
    (text_first p.0 (string p.1 ++ rest) key_fits)
    (ap first_text behind ∙ text_first p.1 rest value_fits)
    (ap (pairs_within n) (ap bytes_behind_text behind ∙ text_behind p.1 rest value_fits) ∙ later)

pairs_short : (pairs : List (List ℕ × List ℕ)) → length pairs ≤ length (pair_texts pairs)
pairs_short [] = omega arith
pairs_short (p ∷ ps) =
    omega (arith, pairs_short ps, length-append (string p.0 ++ string p.1) (pair_texts ps), length-append (string p.0) (string p.1), length-string p.0)

map_found : (pairs : List (List ℕ × List ℕ)) → IsTextMap pairs → map_read (pair_texts pairs) ≡ pairs
unfolding map_read
map_found pairs is_map = pairs_found (length (pair_texts pairs)) pairs (pairs_short pairs) is_map.texts

-- ---- records

abbrev schema : ℕ → List ℕ → List ℕ → List ℕ → Rec
schema id name encoding payload = Schema id (record { name = name; encoding = encoding; payload = payload })

schema_same : (i id : ℕ) (a b c d e f : List ℕ) → i ≡ id → a ≡ b → c ≡ d → e ≡ f → schema i a c e ≡ schema id b d f
schema_same i id a b c d e f one two three four = cc

schema_found : (id : ℕ) (name encoding payload : List ℕ) → id < 256 ^ 2 → length name < 2 ^ 32 → length encoding < 2 ^ 32 → length payload < 2 ^ 32
    → schema_read (schema_text id (record { name = name; encoding = encoding; payload = payload })) ≡ schema id name encoding payload
unfolding schema_read
schema_found id name encoding payload id_fits name_fits encoding_fits payload_fits =
    let third = string payload ++ [] in
    let second = string encoding ++ third in
    let first = string name ++ second in
    let at_name : drop 2 (le 2 id ++ first) ≡ first = number_behind 2 id first in
    let at_encoding : bytes_behind_text (drop 2 (le 2 id ++ first)) ≡ second = ap bytes_behind_text at_name ∙ text_behind name second name_fits in
    let at_payload : bytes_behind_text (bytes_behind_text (drop 2 (le 2 id ++ first))) ≡ third = ap bytes_behind_text at_encoding ∙ text_behind encoding third encoding_fits in
    schema_same (number (take 2 (le 2 id ++ first))) id (first_text (drop 2 (le 2 id ++ first))) name
    (first_text (bytes_behind_text (drop 2 (le 2 id ++ first)))) encoding (first_text (bytes_behind_text (bytes_behind_text (drop 2 (le 2 id ++ first))))) payload
    (number_first 2 id first id_fits)
    (ap first_text at_name ∙ text_first name second name_fits)
    (ap first_text at_encoding ∙ text_first encoding third encoding_fits)
    (ap first_text at_payload ∙ text_first payload [] payload_fits)

channel_same : (i id s schema : ℕ) (a b c d : List ℕ) (m n : List (List ℕ × List ℕ)) → i ≡ id → s ≡ schema → a ≡ b → c ≡ d → m ≡ n → Channel i s a c m ≡ Channel id schema b d n
channel_same i id s schema a b c d m n one two three four five = cc

channel_found : (id schema : ℕ) (topic encoding : List ℕ) (metadata : List (List ℕ × List ℕ)) → id < 256 ^ 2 → schema < 256 ^ 2 → length topic < 2 ^ 32 → length encoding < 2 ^ 32
    → length (pair_texts metadata) < 2 ^ 32 → IsTextMap metadata → channel_read (channel_text id (record { schema = schema; topic = topic; encoding = encoding; metadata = metadata })) ≡ Channel id schema topic encoding metadata
unfolding channel_read
channel_found id schema topic encoding metadata id_fits schema_fits topic_fits encoding_fits metadata_fits is_map =
    let third = string (pair_texts metadata) ++ [] in
    let second = string encoding ++ third in
    let first = string topic ++ second in
    let content = le 2 id ++ (le 2 schema ++ first) in
    let at_schema : drop 2 content ≡ le 2 schema ++ first = number_behind 2 id (le 2 schema ++ first) in
    let at_topic : drop 2 (drop 2 content) ≡ first = ap (drop 2) at_schema ∙ number_behind 2 schema first in
    let at_encoding : bytes_behind_text (drop 2 (drop 2 content)) ≡ second = ap bytes_behind_text at_topic ∙ text_behind topic second topic_fits in
    let at_map : bytes_behind_text (bytes_behind_text (drop 2 (drop 2 content))) ≡ third = ap bytes_behind_text at_encoding ∙ text_behind encoding third encoding_fits in
    channel_same (number (take 2 content)) id (number (take 2 (drop 2 content))) schema (first_text (drop 2 (drop 2 content))) topic
    (first_text (bytes_behind_text (drop 2 (drop 2 content)))) encoding (map_read (first_text (bytes_behind_text (bytes_behind_text (drop 2 (drop 2 content)))))) metadata
    (number_first 2 id (le 2 schema ++ first) id_fits)
    (ap (λ (l : List ℕ). number (take 2 l)) at_schema ∙ number_first 2 schema first schema_fits)
    (ap first_text at_topic ∙ text_first topic second topic_fits)
    (ap first_text at_encoding ∙ text_first encoding third encoding_fits)
    (ap map_read (ap first_text at_map ∙ text_first (pair_texts metadata) [] metadata_fits) ∙ map_found metadata is_map)

message_same : (a b c d e f g h : ℕ) (p q : List ℕ) → a ≡ b → c ≡ d → e ≡ f → g ≡ h → p ≡ q → Message a c e g p ≡ Message b d f h q
message_same a b c d e f g h p q one two three four five = cc

message_found : (channel sequence log_time publish_time : ℕ) (payload : List ℕ) → channel < 256 ^ 2 → sequence < 256 ^ 4 → log_time < 256 ^ 8 → publish_time < 256 ^ 8
    → message_read (message_text channel (record { sequence = sequence; log_time = log_time; publish_time = publish_time; payload = payload })) ≡ Message channel sequence log_time publish_time payload
unfolding message_read
message_found channel sequence log_time publish_time payload channel_fits sequence_fits log_fits publish_fits =
    let third = le 8 publish_time ++ payload in
    let second = le 8 log_time ++ third in
    let first = le 4 sequence ++ second in
    let content = le 2 channel ++ first in
    let at_sequence : drop 2 content ≡ first = number_behind 2 channel first in
    let at_log : drop 4 (drop 2 content) ≡ second = ap (drop 4) at_sequence ∙ number_behind 4 sequence second in
    let at_publish : drop 8 (drop 4 (drop 2 content)) ≡ third = ap (drop 8) at_log ∙ number_behind 8 log_time third in
    message_same (number (take 2 content)) channel (number (take 4 (drop 2 content))) sequence (number (take 8 (drop 4 (drop 2 content)))) log_time
    (number (take 8 (drop 8 (drop 4 (drop 2 content))))) publish_time (drop 8 (drop 8 (drop 4 (drop 2 content)))) payload
    (number_first 2 channel first channel_fits)
    (ap (λ (l : List ℕ). number (take 4 l)) at_sequence ∙ number_first 4 sequence second sequence_fits)
    (ap (λ (l : List ℕ). number (take 8 l)) at_log ∙ number_first 8 log_time third log_fits)
    (ap (λ (l : List ℕ). number (take 8 l)) at_publish ∙ number_first 8 publish_time payload publish_fits)
    (ap (drop 8) at_publish ∙ number_behind 8 publish_time payload)

pub record_found : (r : Rec) → RecFits r → record_read (rec_opcode r) (rec_text r) ≡ r
unfolding record_read
record_found (Schema id s) fits = schema_found id s.name s.encoding s.payload fits.0 fits.1.0.0 fits.1.1.0.0 fits.1.1.1.0
record_found (Channel id schema topic encoding metadata) fits =
    channel_found id schema topic encoding metadata fits.0 fits.1.0 fits.1.1.0.0 fits.1.1.1.0.0 fits.1.1.1.1.0.0 fits.1.1.1.1.0.1
record_found (Message channel sequence log_time publish_time payload) fits = message_found channel sequence log_time publish_time payload fits.0 fits.1.0 fits.1.1.0 fits.1.1.1.0
record_found (Extra op content) fits =
    ap (λ (b : Bool). if b then schema_read content else (if op == 4 then channel_read content else (if op == 5 then message_read content else Extra op content))) (ne_eqb op 3 (extra_not op content 3 fits (omega arith)))
    ∙ ap (λ (b : Bool). if b then channel_read content else (if op == 5 then message_read content else Extra op content)) (ne_eqb op 4 (extra_not op content 4 fits (omega arith)))
    ∙ ap (λ (b : Bool). if b then message_read content else Extra op content) (ne_eqb op 5 (extra_not op content 5 fits (omega arith)))

-- ---- lists of records

records_none : (n : ℕ) → records_within n [] ≡ []
unfolding records_within
records_none zero = refl
records_none (suc n) = refl

records_step : (n op : ℕ) (rest : List ℕ) → records_within (suc n) (op ∷ rest) ≡ record_read op (take (number (take 8 rest)) (drop 8 rest)) ∷ records_within n (drop (number (take 8 rest)) (drop 8 rest))
unfolding records_within
records_step n op rest = refl

all_first : {X : Type 0} (P : X → Type 0) (x : X) (xs : List X) → All P (x ∷ xs) → P x
all_first P x xs all = all 0 x (omega arith)

all_rest : {X : Type 0} (P : X → Type 0) (x : X) (xs : List X) → All P (x ∷ xs) → All P xs
all_rest P x xs all k d lt = all (suc k) d (omega (arith, lt))

records_found : (n : ℕ) (records : List Rec) → length records ≤ n → All IsKept records → records_within n (history_bytes records) ≡ records
records_found n [] few all = records_none n
records_found zero (r ∷ rs) few all = absurd (omega (arith, few))
records_found (suc n) (r ∷ rs) few all =
    let kept : IsKept r = all_first IsKept r rs all in
    let content = rec_text r in
    let rest = history_bytes rs in
    let tail = (le 8 (length content) ++ content) ++ rest in
    let parts : tail ≡ le 8 (length content) ++ (content ++ rest) = append_assoc (le 8 (length content)) content rest in
    let short : length content < 256 ^ 8 = omega (arith, kept.short, length-framed (rec_opcode r) content) in
    let len : number (take 8 tail) ≡ length content = ap (λ (l : List ℕ). number (take 8 l)) parts ∙ number_first 8 (length content) (content ++ rest) short in
    let behind : drop 8 tail ≡ content ++ rest = ap (drop 8) parts ∙ number_behind 8 (length content) (content ++ rest) in
    let here : take (number (take 8 tail)) (drop 8 tail) ≡ content = ap (λ (k : ℕ). take k (drop 8 tail)) len ∙ ap (take (length content)) behind ∙ take-append_seam content rest in
    let there : drop (number (take 8 tail)) (drop 8 tail) ≡ rest = ap (λ (k : ℕ). drop k (drop 8 tail)) len ∙ ap (drop (length content)) behind ∙ drop-append_seam content rest in
    let first : record_read (rec_opcode r) (take (number (take 8 tail)) (drop 8 tail)) ≡ r = ap (record_read (rec_opcode r)) here ∙ record_found r kept.fits in
    let later : records_within n (drop (number (take 8 tail)) (drop 8 tail)) ≡ rs = ap (records_within n) there ∙ records_found n rs (omega (arith, few)) (all_rest IsKept r rs all) in
    records_step n (rec_opcode r) tail ∙ ap (λ (x : Rec). x ∷ records_within n (drop (number (take 8 tail)) (drop 8 tail))) first ∙ ap (λ (l : List Rec). r ∷ l) later

pub records_short : (records : List Rec) → length records ≤ length (history_bytes records)
records_short [] = omega arith
records_short (r ∷ rs) = omega (arith, records_short rs, length-append (rec_bytes r) (history_bytes rs), length-framed (rec_opcode r) (rec_text r))

-- records that may be kept are found in their bytes
pub records_read : (records : List Rec) → All IsKept records → records_shown (history_bytes records) ≡ records
unfolding records_shown
records_read records all = records_found (length (history_bytes records)) records (records_short records) all
