use Rattle.std.proofs.Common.{◌≡◌, ℕ, ◌≤◌, List, [], ◌∷◌, ◌++◌, length, get_or, take, drop, true, false, sym, ◌∙◌, ap, arith, append_assoc, length-append, take-append-drop}
use Rattle.std.proofs.lemmas.List.{take_rest, take_at, drop_at}
use Rattle.std.specs.Int.{w32, to_be_bytes}
use Rattle.std.specs.Cmp.Lexicographic.{bytes_decides}
use Rattle.record_log.specs.Checksum.{crc32}
use Rattle.record_log.specs.Log.{block}
use Rattle.record_log.proofs.block.first_block.Goals as goal

abbrev seal : List ℕ → List ℕ
seal entry = to_be_bytes w32 (crc32 entry)

-- what is parted so was a block before the rest
parted : (bytes behind entry after sum rest : List ℕ) (n : ℕ) → 2 ≤ length bytes → get_or bytes 0 0 ≡ 1 → n ≡ get_or bytes 1 0 → behind ≡ drop 2 bytes
    → entry ≡ take n behind → after ≡ drop n behind → length entry ≡ n → sum ≡ take 4 after → rest ≡ drop 4 after → bytes ≡ 1 ∷ length entry ∷ ((entry ++ sum) ++ rest)
parted [] behind entry after sum rest n long gate len are front back size first second = absurd (omega (arith, long))
parted (a ∷ []) behind entry after sum rest n long gate len are front back size first second = absurd (omega (arith, long))
parted (a ∷ b ∷ bs) behind entry after sum rest n long gate len are front back size first second =
    let one : behind ≡ entry ++ after = sym (take-append-drop n behind) ∙ ap (λ l. l ++ drop n behind) (sym front) ∙ ap (λ l. entry ++ l) (sym back) in
    let two : after ≡ sum ++ rest = sym (take-append-drop 4 after) ∙ ap (λ l. l ++ drop 4 after) (sym first) ∙ ap (λ l. sum ++ l) (sym second) in
    let whole : bs ≡ (entry ++ sum) ++ rest = sym are ∙ one ∙ ap (λ l. entry ++ l) two ∙ sym (append_assoc entry sum rest) in
    ap (λ x. x ∷ b ∷ bs) gate ∙ ap (λ (x : ℕ). 1 ∷ x ∷ bs) (sym len ∙ sym size) ∙ ap (λ (l : List ℕ). 1 ∷ length entry ∷ l) whole

-- and where a block was, its checksum is found
sealed : (bytes behind entry after sum e more : List ℕ) (n : ℕ) → n ≡ get_or bytes 1 0 → behind ≡ drop 2 bytes
    → entry ≡ take n behind → after ≡ drop n behind → sum ≡ take 4 after → bytes ≡ block e ++ more → sum ≡ seal entry
sealed bytes behind entry after sum e more n len are front back first is =
    let size : n ≡ length e = len ∙ ap (λ l. get_or l 1 0) is in
    let whole : behind ≡ e ++ (seal e ++ more) = are ∙ ap (λ l. drop 2 l) is ∙ append_assoc e (seal e) more in
    let same : entry ≡ e = front ∙ ap (λ l. take n l) whole ∙ take_at e (seal e ++ more) n (sym size) in
    let then : after ≡ seal e ++ more = back ∙ ap (λ l. drop n l) whole ∙ drop_at e (seal e ++ more) n (sym size) in
    first ∙ ap (λ l. take 4 l) then ∙ ap seal (sym same)

pub returns-then-behind-len-clause-none : goal.returns-then-behind-len-clause-none
returns-then-behind-len-clause-none c = λ entry more is.
    omega (arith, c.if-behind-len.true, c.from-len.ensures, ap length (take_rest c.args.bytes.now 2), ap (λ l. length (drop 2 l)) is, ap (λ l. get_or l 1 0) is, length-append (entry ++ seal entry) more, length-append entry (seal entry))

pub returns-then-eq-clause-some : goal.returns-then-eq-clause-some
returns-then-eq-clause-some c =
    let same : c.split_at-2.result.0.now ≡ seal c.split_at.result.0.now =
    (bytes_decides c.split_at-2.result.0.now c.as_slice.result.now).0 (sym c.if-eq.ensures) ∙ c.as_slice.ensures ∙ c.to_be_bytes.ensures ∙ ap (λ n. to_be_bytes w32 n) c.crc32.ensures in
    parted c.args.bytes.now _ c.split_at.result.0.now c.split_at.result.1.now c.split_at-2.result.0.now c.split_at-2.result.1.now c.from-len.result
    c.if-bytes-lt2.false c.if-bytes-ne-OPEN.false c.from-len.ensures (take_rest c.args.bytes.now 2) c.split_at.ensures.front c.split_at.ensures.back c.split_at.ensures.front_len c.split_at-2.ensures.front c.split_at-2.ensures.back
    ∙ ap (λ (l : List ℕ). 1 ∷ length c.split_at.result.0.now ∷ ((c.split_at.result.0.now ++ l) ++ c.split_at-2.result.1.now)) same

pub returns-else-eq-clause-none : goal.returns-else-eq-clause-none
returns-else-eq-clause-none c = λ entry more is.
    let same : c.split_at-2.result.0.now ≡ seal c.split_at.result.0.now =
    sealed c.args.bytes.now _ c.split_at.result.0.now c.split_at.result.1.now c.split_at-2.result.0.now entry more c.from-len.result
    c.from-len.ensures (take_rest c.args.bytes.now 2) c.split_at.ensures.front c.split_at.ensures.back c.split_at-2.ensures.front is in
    let found : c.as_slice.result.now ≡ seal c.split_at.result.0.now = c.as_slice.ensures ∙ c.to_be_bytes.ensures ∙ ap (λ n. to_be_bytes w32 n) c.crc32.ensures in
    let yes : true ≡ false = sym ((bytes_decides c.split_at-2.result.0.now c.as_slice.result.now).1 (same ∙ sym found)) ∙ sym c.if-eq.ensures in
    cc yes
