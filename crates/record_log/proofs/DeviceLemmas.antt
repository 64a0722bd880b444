-- How a run of device calls goes on.
use Rattle.std.proofs.Common.{◌≡◌, inl, inr, ⊎_elim, ℕ, ◌<◌, ◌≤◌, List, Result, Ok, Err, arith}
use Rattle.record_log.specs.declared.device.DeviceError.{DeviceError}
use Rattle.record_log.specs.declared.device.DeviceError.TheVariants.{Failed}
use Rattle.record_log.specs.Device.{Elapses, LeavesOnly, IsCounted}

-- what is `Ok` is no error
pub no_error : {T E P : Type 0} (value : T) (error : E) → Ok value ≡ Err error → P
no_error value error is = cc is

-- an error whose failure was counted
pub counted_error : {T : Type 0} (before now : ℕ) (error : DeviceError) → before ≤ now → (error ≡ Failed → before < now) → IsCounted {T = T} before now (Err error)
counted_error before now error later counted = record { later = later; failed = λ is. counted (cc is) }

-- failures are counted from an earlier number on too
pub counted_since : {T : Type 0} (before mid now : ℕ) (result : Result T DeviceError) → before ≤ mid → IsCounted mid now result → IsCounted before now result
counted_since before mid now result later counted = record { later = omega (arith, later, counted.later); failed = λ is. omega (arith, later, counted.failed is) }

module _ {D : Type 0} (moment : D → ℕ) (left_since : D → ℕ → List ℕ → Type 0) where
  -- before the first call
  pub started : (old : D) (P : List ℕ → Type 0) → ((c : List ℕ) → left_since old (moment old) c → P c) → LeavesOnly moment left_since old old P
  started old P here = record { later = omega arith; each = here; before = λ t c le left. inl left }

  -- one call more, after which a crash leaves what has P
  pub goes_on : (old mid new : D) (P may_leave : List ℕ → Type 0) → LeavesOnly moment left_since old mid P → Elapses (moment mid) (moment new) (left_since mid) (left_since new) may_leave
      → ((c : List ℕ) → may_leave c → P c) → LeavesOnly moment left_since old new P
  goes_on old mid new P may_leave so_far time here = record {
    later = omega (arith, so_far.later, time.later);
    each = λ c left. ⊎_elim (so_far.each c) (here c) (time.nothing_else (moment old) c so_far.later left);
    before = λ t c le left. ⊎_elim (so_far.before t c le) (λ now. inr (here c now)) (time.nothing_else t c (omega (arith, le, so_far.later)) left);
  }

  -- two calls, each of which leaves only what might have been left before it
  pub two_calls : (old mid new : D) (P left_mid left_new : List ℕ → Type 0) → ((c : List ℕ) → left_since old (moment old) c → P c)
      → Elapses (moment old) (moment mid) (left_since old) (left_since mid) left_mid → ((c : List ℕ) → left_mid c → P c)
      → Elapses (moment mid) (moment new) (left_since mid) (left_since new) left_new → ((c : List ℕ) → left_new c → left_mid c) → LeavesOnly moment left_since old new P
  two_calls old mid new P left_mid left_new now first here second of =
      goes_on old mid new P left_new (goes_on old old mid P left_mid (started old P now) first here) second (λ c left. here c (of c left))

  -- one run after another
  pub then : (old mid new : D) (P Q R : List ℕ → Type 0) → LeavesOnly moment left_since old mid P → LeavesOnly moment left_since mid new Q
      → ((c : List ℕ) → P c → R c) → ((c : List ℕ) → Q c → R c) → LeavesOnly moment left_since old new R
  then old mid new P Q R first second of_first of_second = record {
    later = omega (arith, first.later, second.later);
    each = λ c left. ⊎_elim (λ was. of_first c (first.each c was)) (of_second c) (second.before (moment old) c first.later left);
    before = λ t c le left. ⊎_elim (λ was. ⊎_elim inl (λ p. inr (of_first c p)) (first.before t c le was)) (λ q. inr (of_second c q)) (second.before t c (omega (arith, le, first.later)) left);
  }

  -- what has P has R
  pub widened : (old new : D) (P R : List ℕ → Type 0) → LeavesOnly moment left_since old new P → ((c : List ℕ) → P c → R c) → LeavesOnly moment left_since old new R
  widened old new P R run of = record {
    later = run.later;
    each = λ c left. of c (run.each c left);
    before = λ t c le left. ⊎_elim inl (λ p. inr (of c p)) (run.before t c le left);
  }
