use Rattle.std.proofs.Common.{◌≡◌, inl, ℕ, List, Result, Err, [], ◌∷◌, length, get_or, drop, false, subst, sym, refl}
use Rattle.std.specs.Bool.{◌==◌}
use Rattle.std.proofs.lemmas.Result.{IfOk-from_err, err_from_is_err_and}
use Rattle.record_log.specs.declared.reading.ReadError.{ReadError}
use Rattle.record_log.specs.declared.reading.ReadError.TheVariants.{Memory, Damaged}
use Rattle.record_log.specs.Log.{texts}
use Rattle.record_log.proofs.ReadingLemmas.{IsReadUpTo, reads_on, shorter, end_of, inside, closes, unbegun}
use Rattle.record_log.proofs.DeviceLemmas.{no_error}
use Rattle.record_log.proofs.reading.read_entries.Goals as goal

pub loop-entry-init : goal.loop-entry-init
loop-entry-init c = subst (λ l. IsReadUpTo c.args.bytes.now (texts l) c.args.bytes.now) (sym c.new-found.ensures.items) refl

pub returns-in_err-keep-clause-stands : goal.returns-in_err-keep-clause-stands
returns-in_err-keep-clause-stands c = IfOk-from_err _ _ c.from_residual.ensures.0

pub returns-in_err-keep-clause-end : goal.returns-in_err-keep-clause-end
returns-in_err-keep-clause-end c = IfOk-from_err _ _ c.from_residual.ensures.0

-- memory that is refused is no damage
not_damaged : {T P : Type 0} (result : Result T ReadError) (error : ReadError) (at : ℕ) → result ≡ Err error → error ≡ Memory → result ≡ Err (Damaged at) → P
not_damaged result error at failed memory damaged = (cc)

pub returns-in_err-keep-clause-damaged : goal.returns-in_err-keep-clause-damaged
returns-in_err-keep-clause-damaged c = λ at is.
    let e = err_from_is_err_and c.from_residual.result c.from_residual.ensures.1 in
    not_damaged c.from_residual.result e.0 at e.1 e.2 is

pub loop-entry-smaller : goal.loop-entry-smaller
loop-entry-smaller c = shorter _ c.in-Some.entry.now c.in-Some.behind.now c.in-Some.ensures.some

pub loop-entry-preserved : goal.loop-entry-preserved
loop-entry-preserved c = subst (λ l. IsReadUpTo c.args.bytes.now l c.in-Some.behind.now) (sym c.in_ok-keep.ensures)
    (reads_on _ _ _ c.in-Some.entry.now c.in-Some.behind.now c.loop-entry.invariant c.in-Some.ensures.some)

pub overflow_sub-end : goal.overflow_sub-end
overflow_sub-end c = inside _ _ _ c.loop-entry.invariant

pub returns-then-bytes-lt2-clause-stands : goal.returns-then-bytes-lt2-clause-stands
returns-then-bytes-lt2-clause-stands c = unbegun _ _ _ c.loop-entry.invariant c.if-bytes-lt2.true

pub returns-then-bytes-lt2-clause-end : goal.returns-then-bytes-lt2-clause-end
returns-then-bytes-lt2-clause-end c = end_of _ _ _ c.loop-entry.invariant

pub returns-clause-end : goal.returns-clause-end
returns-clause-end c = end_of _ _ _ c.loop-entry.invariant

-- what is not empty has a first byte
filled : (rest : List ℕ) → false ≡ (length rest == 0) → rest ≡ get_or rest 0 0 ∷ drop 1 rest
filled [] is = cc is
filled (byte ∷ bytes) is = refl

pub returns-clause-stands : goal.returns-clause-stands
returns-clause-stands c =
    inl (closes c.args.bytes.now (texts c.loop-entry.found.items) c.loop-entry.rest.now c.loop-entry.invariant (get_or c.loop-entry.rest.now 0 0) (drop 1 c.loop-entry.rest.now)
    c.if-rest-eq-OPEN.false (filled c.loop-entry.rest.now c.if-is_empty.ensures))

pub returns-then-bytes-lt2-clause-damaged : goal.returns-then-bytes-lt2-clause-damaged
returns-then-bytes-lt2-clause-damaged c = λ at is. no_error _ _ is

pub returns-clause-damaged : goal.returns-clause-damaged
returns-clause-damaged c = λ at is. no_error _ _ is
