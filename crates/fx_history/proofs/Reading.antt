-- A result line is read back: its words tell the client, the number of the line, the commit and the end.
use Rattle.std.proofs.Common.{◌≡◌, ℕ, suc, ◌+◌, ◌/◌, ◌%◌, ◌<◌, ◌==◌, not, zero, Bool, true, false, cond, List, [], ◌∷◌, ◌++◌, map, length, drop, refl, sym, ap, subst, ◌∙◌, arith, append_assoc}
use Rattle.std.specs.Prelude.{codes, nat_lt, take, Option, None, Some, Result, Ok, Err}
use Rattle.std.specs.List.{list_all, AllByRecursion}
use Rattle.std.specs.Cmp.Derive.{both_true}
use Rattle.std.proofs.lemmas.Bool.{lt-ltb, ne_eqb}
use Rattle.std.specs.Str.{bytes_eq}
use Rattle.std.specs.Fmt.{decimal, digits, digits_onto, digit_glyph}
use Rattle.std.specs.Str.Parse.{digits_value}
use Rattle.std.proofs.lemmas.List.{append-nil, same_from_push}
use Rattle.std.proofs.lemmas.Fmt.{decimal_is_IsNumeral_wide}
use Rattle.std.specs.FinMap.{get}
use Rattle.fx_plain.specs.Words.{refusal_word}
use Rattle.fx_plain.specs.Tree.{Tree}
use Rattle.fx_plain.specs.Node as node
use Rattle.fx_plain.specs.Node.{Node}
use Rattle.fx_plain.specs.Table.{do_step, is_reading, list_at, read_at, stat_at, walk}
use Rattle.fx_plain.specs.declared.contents.TheConstants.{MAX_READ}
use Rattle.fx_plain.specs.declared.step.Step.{Step}
use Rattle.fx_plain.specs.declared.step.Step.TheVariants.{Mkdir, Create, Write, Read, List as ListStep, Stat as StatStep}
use Rattle.fx_plain.specs.declared.kind.Kind.TheVariants.{Dir, File}
use Rattle.fx_plain.specs.declared.step.Answer.{Answer}
use Rattle.fx_plain.specs.declared.step.Answer.TheVariants.{Done, Text, Names, Stat}
use Rattle.fx_plain.specs.declared.step.Refusal.{Refusal}
use Rattle.fx_plain.specs.declared.step.Refusal.TheVariants.{NotFound, NotDir, IsDir, Exists, NotVolume, TooLong}
use Rattle.fx_script.specs.Escape.{escaped}
use Rattle.fx_script.specs.Cut.{words_of}
use Rattle.fx_script.specs.Checked.{names_in}
use Rattle.fx_script.specs.Print.{spaced}
use Rattle.fx_script.specs.declared.script.Task.{Task}
use Rattle.fx_script.proofs.Escapes.{decode-escaped}
use Rattle.fx_script.proofs.Prints.{AreWords, is_word_byte, is_not, escaped_word, cut_spaced}
use Rattle.fx_history.specs.declared.outcome.EndKind.{EndKind}
use Rattle.fx_history.specs.declared.outcome.EndKind.TheVariants.{Committed, Seen, Refused, Full, Synced, DeviceFault, OutOfMemory}
use Rattle.fx_history.specs.Outcome.{LineEnd}
use Rattle.fx_history.specs.declared.entry.Entry.{Entry}
use Rattle.fx_history.specs.History.{tree_at}
use Rattle.fx_history.specs.Transcript.{IsAnswered}
use Rattle.fx_history.specs.Text.{after_count, end_text, result_line, spaced_names}
use Rattle.fx_history.specs.Told.{HasEscapes, EndIsWhole, IsPrintedWhole, LineIsWhole, TellSame, told}

-- ---- the words of an end

text_words : List ℕ → List (List ℕ)
text_words [] = []
text_words (b ∷ bs) = escaped (b ∷ bs) ∷ []

end_words : ℕ → EndKind → List (List ℕ)
end_words at Committed = codes "ok" ∷ decimal at ∷ []
end_words at (Seen Done) = codes "ok" ∷ decimal at ∷ []
end_words at (Seen (Text bytes)) = codes "read" ∷ decimal at ∷ decimal (length bytes) ∷ text_words bytes
end_words at (Seen (Names names)) = codes "list" ∷ decimal at ∷ decimal (length names) ∷ map escaped names
end_words at (Seen (Stat Dir size blocks)) = codes "stat" ∷ decimal at ∷ codes "dir" ∷ decimal size ∷ codes "0" ∷ []
end_words at (Seen (Stat File size blocks)) = codes "stat" ∷ decimal at ∷ codes "file" ∷ decimal size ∷ decimal blocks ∷ []
end_words at (Refused index refusal) = codes "err" ∷ decimal at ∷ decimal index ∷ refusal_word refusal ∷ []
end_words at (Full full) = codes "err" ∷ decimal at ∷ codes "0" ∷ codes "full" ∷ []
end_words at (Synced calls) = codes "synced" ∷ decimal at ∷ decimal calls ∷ []
end_words at (DeviceFault count) = codes "err" ∷ decimal at ∷ codes "0" ∷ codes "device" ∷ []
end_words at OutOfMemory = codes "err" ∷ decimal at ∷ codes "0" ∷ codes "memory" ∷ []

text_spaced : (word bytes : List ℕ) → word ++ after_count bytes ≡ spaced (word ∷ text_words bytes)
unfolding text_words
text_spaced word [] = append-nil word
text_spaced word (b ∷ bs) = refl

names_spaced : (word : List ℕ) (names : List (List ℕ)) → word ++ spaced_names names ≡ spaced (word ∷ map escaped names)
names_spaced word [] = append-nil word
names_spaced word (name ∷ names) = ap (λ rest. word ++ 32 ∷ rest) (names_spaced (escaped name) names)

module _ (h a m b : List ℕ) where
  three : h ++ a ++ m ++ b ≡ h ++ (a ++ (m ++ b))
  three = append_assoc (h ++ a) m b ∙ append_assoc h a (m ++ b)

  four : (e : List ℕ) → h ++ a ++ m ++ b ++ e ≡ h ++ (a ++ (m ++ (b ++ e)))
  four e = append_assoc (h ++ a ++ m) b e ∙ append_assoc (h ++ a) m (b ++ e) ∙ append_assoc h a (m ++ (b ++ e))

  five : (e f : List ℕ) → h ++ a ++ m ++ b ++ e ++ f ≡ h ++ (a ++ (m ++ (b ++ (e ++ f))))
  five e f = append_assoc (h ++ a ++ m ++ b) e f ∙ four (e ++ f)

-- the text of an end is its words with spaces between them
end_spaced : (at : ℕ) (kind : EndKind) → end_text at kind ≡ spaced (end_words at kind)
unfolding end_words
end_spaced at Committed = refl
end_spaced at (Seen Done) = refl
end_spaced at (Seen (Text bytes)) =
    four (codes "read ") (decimal at) (codes " ") (decimal (length bytes)) (after_count bytes)
    ∙ ap (λ (rest : List ℕ). codes "read " ++ (decimal at ++ (32 ∷ rest))) (text_spaced (decimal (length bytes)) bytes)
end_spaced at (Seen (Names names)) =
    four (codes "list ") (decimal at) (codes " ") (decimal (length names)) (spaced_names names)
    ∙ ap (λ (rest : List ℕ). codes "list " ++ (decimal at ++ (32 ∷ rest))) (names_spaced (decimal (length names)) names)
end_spaced at (Seen (Stat Dir size blocks)) = four (codes "stat ") (decimal at) (codes " dir ") (decimal size) (codes " 0")
end_spaced at (Seen (Stat File size blocks)) = five (codes "stat ") (decimal at) (codes " file ") (decimal size) (codes " ") (decimal blocks)
end_spaced at (Refused index refusal) = five (codes "err ") (decimal at) (codes " ") (decimal index) (codes " ") (refusal_word refusal)
end_spaced at (Full full) = append_assoc (codes "err ") (decimal at) (codes " 0 full")
end_spaced at (Synced calls) = three (codes "synced ") (decimal at) (codes " ") (decimal calls)
end_spaced at (DeviceFault count) = append_assoc (codes "err ") (decimal at) (codes " 0 device")
end_spaced at OutOfMemory = append_assoc (codes "err ") (decimal at) (codes " 0 memory")

line_words : Task → LineEnd → List (List ℕ)
line_words task end = decimal task.client ∷ decimal task.number ∷ end_words end.at end.kind

-- one more word in front
one_more : (word : List ℕ) (at : ℕ) (kind : EndKind) → spaced (word ∷ end_words at kind) ≡ word ++ (32 ∷ spaced (end_words at kind))
unfolding end_words
one_more word at Committed = refl
one_more word at (Seen Done) = refl
one_more word at (Seen (Text bytes)) = refl
one_more word at (Seen (Names names)) = refl
one_more word at (Seen (Stat Dir size blocks)) = refl
one_more word at (Seen (Stat File size blocks)) = refl
one_more word at (Refused index refusal) = refl
one_more word at (Full full) = refl
one_more word at (Synced calls) = refl
one_more word at (DeviceFault count) = refl
one_more word at OutOfMemory = refl

line_spaced : (task : Task) (end : LineEnd) → result_line task end ≡ spaced (line_words task end) ++ (10 ∷ [])
unfolding line_words
line_spaced task end =
    let words = ap (λ (text : List ℕ). decimal task.number ++ (32 ∷ text)) (end_spaced end.at end.kind) ∙ sym (one_more (decimal task.number) end.at end.kind) in
    ap (λ (text : List ℕ). text ++ (10 ∷ []))
    (four (decimal task.client) (codes " ") (decimal task.number) (codes " ") (end_text end.at end.kind)
    ∙ ap (λ (text : List ℕ). decimal task.client ++ (32 ∷ text)) words)

-- ---- no word has a space

-- a digit is no space
glyph_word : (d : ℕ) → d < 10 → is_word_byte (digit_glyph false d) ≡ true
glyph_word d small =
    ap (λ (b : Bool). is_word_byte (cond b (48 + d) (87 + d))) (lt-ltb d 10 small)
    ∙ both_true (lt-ltb (48 + d) 128 (omega arith)) (no_space (48 + d) (omega arith))
  where
    no_space : (b : ℕ) → 32 < b → is_not 32 b ≡ true
    no_space b more = ap not (ne_eqb b 32 (λ e. omega arith))

onto_word : (k n : ℕ) (rest : List ℕ) → list_all is_word_byte rest ≡ true → list_all is_word_byte (digits_onto k 10 false n rest) ≡ true
onto_word zero n rest h = h
onto_word (suc k) n rest h =
    let more : list_all is_word_byte (digit_glyph false (n % 10) ∷ rest) ≡ true = both_true (glyph_word (n % 10) (omega arith)) h in
    either (n / 10 == 0) _ _ more (onto_word k (n / 10) _ more)
  where
    either : (b : Bool) (xs ys : List ℕ) → list_all is_word_byte xs ≡ true → list_all is_word_byte ys ≡ true → list_all is_word_byte (cond b xs ys) ≡ true
    either true xs ys p q = p
    either false xs ys p q = q

digits_word : (n : ℕ) → list_all is_word_byte (decimal n) ≡ true
unfolding digits
digits_word n = onto_word 64 n [] refl

text_is_word : (bytes : List ℕ) → AllByRecursion (λ b. b < 256) bytes → AreWords (text_words bytes)
unfolding text_words
text_is_word [] h = tt
text_is_word (b ∷ bs) h = (escaped_word (b ∷ bs) h, tt)

names_words : (names : List (List ℕ)) → AllByRecursion HasEscapes names → AreWords (map escaped names)
names_words [] h = tt
names_words (name ∷ names) h = (escaped_word name h.0, names_words names h.1)

refusal_is_word : (refusal : Refusal) → list_all is_word_byte (refusal_word refusal) ≡ true
refusal_is_word NotFound = refl
refusal_is_word NotDir = refl
refusal_is_word IsDir = refl
refusal_is_word Exists = refl
refusal_is_word NotVolume = refl
refusal_is_word TooLong = refl

end_are_words : (at : ℕ) (kind : EndKind) → EndIsWhole kind → AreWords (end_words at kind)
unfolding end_words
end_are_words at Committed h = (refl, (digits_word at, tt))
end_are_words at (Seen Done) h = (refl, (digits_word at, tt))
end_are_words at (Seen (Text bytes)) h = (refl, (digits_word at, (digits_word (length bytes), text_is_word bytes h)))
end_are_words at (Seen (Names names)) h = (refl, (digits_word at, (digits_word (length names), names_words names h)))
end_are_words at (Seen (Stat Dir size blocks)) h = (refl, (digits_word at, (refl, (digits_word size, (refl, tt)))))
end_are_words at (Seen (Stat File size blocks)) h = (refl, (digits_word at, (refl, (digits_word size, (digits_word blocks, tt)))))
end_are_words at (Refused index refusal) h = (refl, (digits_word at, (digits_word index, (refusal_is_word refusal, tt))))
end_are_words at (Full full) h = (refl, (digits_word at, (refl, (refl, tt))))
end_are_words at (Synced calls) h = (refl, (digits_word at, (digits_word calls, tt)))
end_are_words at (DeviceFault count) h = (refl, (digits_word at, (refl, (refl, tt))))
end_are_words at OutOfMemory h = (refl, (digits_word at, (refl, (refl, tt))))

-- ---- an end from its words

value : List ℕ → ℕ
value word = digits_value 10 word

refusal_read : List ℕ → Refusal
refusal_read word =
    cond (bytes_eq word (codes "notdir")) NotDir
    (cond (bytes_eq word (codes "isdir")) IsDir
    (cond (bytes_eq word (codes "exists")) Exists
    (cond (bytes_eq word (codes "notvolume")) NotVolume
    (cond (bytes_eq word (codes "toolong")) TooLong NotFound))))

error_read : List (List ℕ) → EndKind
error_read [] = Committed
error_read (index ∷ []) = Committed
error_read (index ∷ word ∷ rest) =
    cond (bytes_eq word (codes "full")) (Full (record { live = 0; promised = 0; want = 0 }))
    (cond (bytes_eq word (codes "device")) (DeviceFault 0)
    (cond (bytes_eq word (codes "memory")) OutOfMemory (Refused (value index) (refusal_read word))))

text_in : List (List ℕ) → List ℕ
text_in [] = []
text_in (text ∷ texts) = text

text_read : List (List ℕ) → Answer
text_read [] = Done
text_read (count ∷ []) = Text []
text_read (count ∷ word ∷ rest) = Text (text_in (names_in (word ∷ [])))

names_read : List (List ℕ) → Answer
names_read [] = Done
names_read (count ∷ words) = Names (names_in words)

stat_read : List (List ℕ) → Answer
stat_read [] = Done
stat_read (kind ∷ []) = Done
stat_read (kind ∷ size ∷ []) = Done
stat_read (kind ∷ size ∷ blocks ∷ rest) =
    cond (bytes_eq kind (codes "dir")) (Stat Dir (value size) 0) (Stat File (value size) (value blocks))

synced_read : List (List ℕ) → EndKind
synced_read [] = Committed
synced_read (calls ∷ rest) = Synced (value calls)

kind_read : List ℕ → List (List ℕ) → EndKind
kind_read word rest =
    cond (bytes_eq word (codes "ok")) Committed
    (cond (bytes_eq word (codes "read")) (Seen (text_read rest))
    (cond (bytes_eq word (codes "list")) (Seen (names_read rest))
    (cond (bytes_eq word (codes "stat")) (Seen (stat_read rest))
    (cond (bytes_eq word (codes "synced")) (synced_read rest) (error_read rest)))))

value_read : (n : ℕ) → IsPrintedWhole n → value (decimal n) ≡ n
unfolding value
value_read n whole = (decimal_is_IsNumeral_wide n whole).1

names_decoded : (names : List (List ℕ)) → AllByRecursion HasEscapes names → names_in (map escaped names) ≡ names
names_decoded [] h = refl
names_decoded (name ∷ names) h = λ i. decode-escaped name h.0 i ∷ names_decoded names h.1 i

refused_read : (index : List ℕ) (refusal : Refusal) → error_read (index ∷ refusal_word refusal ∷ []) ≡ Refused (value index) refusal
unfolding error_read refusal_read
refused_read index NotFound = refl
refused_read index NotDir = refl
refused_read index IsDir = refl
refused_read index Exists = refl
refused_read index NotVolume = refl
refused_read index TooLong = refl

-- what stands behind the first word and the commit
abbrev end_read : List (List ℕ) → EndKind
end_read [] = Committed
end_read (word ∷ []) = Committed
end_read (word ∷ at ∷ rest) = kind_read word rest

text_back : (count bytes : List ℕ) → AllByRecursion (λ b. b < 256) bytes → text_read (count ∷ text_words bytes) ≡ Text bytes
unfolding text_words text_in text_read
text_back count [] h = refl
text_back count (b ∷ bs) h = ap Text (decode-escaped (b ∷ bs) h)

read_back : (at : ℕ) (kind : EndKind) → EndIsWhole kind → end_read (end_words at kind) ≡ told kind
unfolding end_words kind_read text_in text_read names_read stat_read synced_read error_read
read_back at Committed h = refl
read_back at (Seen Done) h = refl
read_back at (Seen (Text bytes)) h = ap Seen (text_back (decimal (length bytes)) bytes h)
read_back at (Seen (Names names)) h = ap (λ all. Seen (Names all)) (names_decoded names h)
read_back at (Seen (Stat Dir size blocks)) h = ap (λ n. Seen (Stat Dir n 0)) (value_read size h)
read_back at (Seen (Stat File size blocks)) h = λ i. Seen (Stat File (value_read size h.0 i) (value_read blocks h.1 i))
read_back at (Refused index refusal) h = refused_read (decimal index) refusal ∙ ap (λ n. Refused n refusal) (value_read index h)
read_back at (Full full) h = refl
read_back at (Synced calls) h = ap Synced (value_read calls h)
read_back at (DeviceFault count) h = refl
read_back at OutOfMemory h = refl

-- ---- a line from its words

client_read : List (List ℕ) → ℕ
client_read [] = 0
client_read (client ∷ rest) = value client

number_read : List (List ℕ) → ℕ
number_read [] = 0
number_read (client ∷ []) = 0
number_read (client ∷ number ∷ rest) = value number

-- the words of the end
abbrev behind : List (List ℕ) → List (List ℕ)
behind words = drop 2 words

at_read : List (List ℕ) → ℕ
at_read [] = 0
at_read (word ∷ []) = 0
at_read (word ∷ at ∷ rest) = value at

at_back : (at : ℕ) (kind : EndKind) → IsPrintedWhole at → at_read (end_words at kind) ≡ at
unfolding end_words at_read
at_back at Committed h = value_read at h
at_back at (Seen Done) h = value_read at h
at_back at (Seen (Text bytes)) h = value_read at h
at_back at (Seen (Names names)) h = value_read at h
at_back at (Seen (Stat Dir size blocks)) h = value_read at h
at_back at (Seen (Stat File size blocks)) h = value_read at h
at_back at (Refused index refusal) h = value_read at h
at_back at (Full full) h = value_read at h
at_back at (Synced calls) h = value_read at h
at_back at (DeviceFault count) h = value_read at h
at_back at OutOfMemory h = value_read at h

line_cut : (task : Task) (end : LineEnd) → LineIsWhole task end → words_of (spaced (line_words task end)) ≡ line_words task end
unfolding line_words
line_cut task end h =
    cut_spaced (decimal task.client) (decimal task.number ∷ end_words end.at end.kind)
    (digits_word task.client, (digits_word task.number, end_are_words end.at end.kind h.kind))

client_back : (task : Task) (end : LineEnd) → LineIsWhole task end → client_read (line_words task end) ≡ task.client
unfolding line_words client_read
client_back task end h = value_read task.client h.client

number_back : (task : Task) (end : LineEnd) → LineIsWhole task end → number_read (line_words task end) ≡ task.number
unfolding line_words number_read
number_back task end h = value_read task.number h.number

behind_line : (task : Task) (end : LineEnd) → behind (line_words task end) ≡ end_words end.at end.kind
unfolding line_words
behind_line task end = refl

-- two lines with one text tell the same
pub tell_same : (task other : Task) (first second : LineEnd) → LineIsWhole task first → LineIsWhole other second → result_line task first ≡ result_line other second → TellSame task other first second
tell_same task other first second f s same =
    let texts : spaced (line_words task first) ≡ spaced (line_words other second) = (same_from_push _ _ 10 10 (sym (line_spaced task first) ∙ same ∙ line_spaced other second)).0 in
    let words : line_words task first ≡ line_words other second = sym (line_cut task first f) ∙ ap words_of texts ∙ line_cut other second s in
    let ends : end_words first.at first.kind ≡ end_words second.at second.kind = sym (behind_line task first) ∙ ap behind words ∙ behind_line other second in
    record {
      client = sym (client_back task first f) ∙ ap client_read words ∙ client_back other second s;
      number = sym (number_back task first f) ∙ ap number_read words ∙ number_back other second s;
      at = sym (at_back first.at first.kind f.at) ∙ ap at_read ends ∙ at_back second.at second.kind s.at;
      kind = sym (read_back first.at first.kind f.kind) ∙ ap end_read ends ∙ read_back second.at second.kind s.kind;
    }

-- what is printed is what is told
printed_told : (at : ℕ) (kind : EndKind) → end_text at (told kind) ≡ end_text at kind
printed_told at Committed = refl
printed_told at (Seen Done) = refl
printed_told at (Seen (Text bytes)) = refl
printed_told at (Seen (Names names)) = refl
printed_told at (Seen (Stat Dir size blocks)) = refl
printed_told at (Seen (Stat File size blocks)) = refl
printed_told at (Refused index refusal) = refl
printed_told at (Full full) = refl
printed_told at (Synced calls) = refl
printed_told at (DeviceFault count) = refl
printed_told at OutOfMemory = refl

pub same_told : (task other : Task) (first second : LineEnd) → TellSame task other first second → result_line task first ≡ result_line other second
same_told task other first second same =
    let ends : end_text first.at first.kind ≡ end_text second.at second.kind =
    sym (printed_told first.at first.kind) ∙ (λ i. end_text (same.at i) (same.kind i)) ∙ printed_told second.at second.kind in
    λ i. decimal (same.client i) ++ codes " " ++ decimal (same.number i) ++ codes " " ++ ends i ++ codes "\n"

-- ---- no right answer has what a line leaves out

-- where a step looks, what it answers is told whole
abbrev ToldWhole : Result Answer Refusal → Type 0
ToldWhole (Ok answer) = told (Seen answer) ≡ Seen answer
ToldWhole (Err refusal) = Unit {0}

read_whole : (at count : ℕ) (found : Option Refusal) (there : Option Node) → ToldWhole (read_at at count found there)
read_whole at count (Some refusal) there = tt
read_whole at count None None = tt
read_whole at count None (Some (node.Dir attributes)) = tt
read_whole at count None (Some (node.File contents attributes)) = by (nat_lt MAX_READ count)
  where
    by : (b : Bool) → ToldWhole (cond b (Err TooLong) (Ok (Text (take count (drop at contents.bytes)))))
    by true = tt
    by false = refl

list_whole : (tree : Tree) (path : List (List ℕ)) (found : Option Refusal) (there : Option Node) → ToldWhole (list_at tree path found there)
list_whole tree path (Some refusal) there = tt
list_whole tree path None None = tt
list_whole tree path None (Some (node.Dir attributes)) = refl
list_whole tree path None (Some (node.File contents attributes)) = tt

stat_whole : (tree : Tree) (path : List (List ℕ)) (found : Option Refusal) (there : Option Node) → ToldWhole (stat_at tree path found there)
stat_whole tree path (Some refusal) there = tt
stat_whole tree path None None = tt
stat_whole tree path None (Some (node.Dir attributes)) = refl
stat_whole tree path None (Some (node.File contents attributes)) = refl

step_whole : (tree : Tree) (step : Step) → is_reading step ≡ true → ToldWhole (do_step tree step).0
step_whole tree (Mkdir path) reading = absurd (cc reading)
step_whole tree (Create path) reading = absurd (cc reading)
step_whole tree (Write path at text) reading = absurd (cc reading)
step_whole tree (Read path at count) reading = read_whole at count (walk tree path) (get tree path)
step_whole tree (ListStep path) reading = list_whole tree path (walk tree path) (get tree path)
step_whole tree (StatStep path) reading = stat_whole tree path (walk tree path) (get tree path)

pub answer_whole : (tree : Tree) (history : List Entry) (task : Task) (at : ℕ) (answer : Answer) → IsAnswered tree history task at (Seen answer) → told (Seen answer) ≡ Seen answer
answer_whole tree history task at answer (step, seen) = subst ToldWhole seen.answers (step_whole (tree_at tree history at) step seen.reading)
