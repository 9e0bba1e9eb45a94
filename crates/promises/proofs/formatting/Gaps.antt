-- No mark begins in a gap and the 00 bytes behind it, nor in the index mark, nor in the gap that ends the track: tests of a few image
-- bytes, carried to gaps of any length.
use mathlib.Core.Path.{◌≡◌, refl}
use mathlib.Core.Bool.{not}
use mathlib.Core.List.{List, [], ◌∷◌, ◌++◌}
use mathlib.Core.Logic.{⊎_elim}
use Prim.Native.Nat.{ℕ, zero, suc, ◌+◌, ◌*◌, ◌%◌, ◌<◌, ◌≤◌}
use native.Mathlib.Nat.{add_assoc, add-zero}
use native.Mathlib.Omega.{arith}
use lib.Dec.{T}
use lib.ListN.{length, get_or, drop}
use Rattle.cells.specs.Cells.{clock}
use Rattle.coding.specs.Coding.{four, high, low}
use Rattle.cells.specs.declared.Mode.{Mode}
use Rattle.cells.specs.declared.Mode.TheVariants.{Fm, Mfm}
use Rattle.format.specs.Order.{Symbol, mark, image, run}
use Rattle.layouts.specs.Layouts.{gap_byte}
use Rattle.marks.specs.Marks.{string, mark_byte}
use Rattle.marks.specs.declared.Mark.{Mark}
use Rattle.marks.specs.declared.Mark.TheVariants.{Index, Identifier, Data, Control, Open}
use Rattle.search.proofs.Searching.{le_or_lt}
use Rattle.marks.proofs.Spelling.{string_two, Stand}
use Rattle.marks.specs.Marks.{mark_cells}
use Rattle.promises.proofs.formatting.Standing.{On, on_run, stand_append}
use Rattle.promises.proofs.formatting.Quiet.{Clear, Quiet, quiet_none, quiet_join, hits, clear_by, clear_beyond, calm, Calm, quiet_calm}

-- ---- the tests

-- What holds after a ZERO and after a ONE.
by_bit : (P : ℕ → Type 0) → P 0 → P 1 → (b : ℕ) → b < 2 → P b
by_bit P u v zero h = u
by_bit P u v (suc zero) h = v
by_bit P u v (suc (suc b)) h = absurd (omega arith)

-- No mark begins in the byte x, after any bit, where the image bytes y and z follow.
abbrev Lulls : Mode → ℕ → ℕ → ℕ → Type 0
Lulls mode x y z = (b : ℕ) → b < 2 → Calm mode (high mode b x ∷ low mode x ∷ y ∷ z ∷ [])

-- A gap byte before another, a gap byte before a 00 byte, a 00 byte before another, and a 00 byte before a mark.
gap_gap : (mode : Mode) → Lulls mode (gap_byte mode) (high mode (gap_byte mode % 2) (gap_byte mode)) (low mode (gap_byte mode))
unfolding calm clock four high low
gap_gap Fm = by_bit _ (tt, (tt, tt)) (tt, (tt, tt))
gap_gap Mfm = by_bit _ (tt, (tt, tt)) (tt, (tt, tt))

gap_sync : (mode : Mode) → Lulls mode (gap_byte mode) (high mode (gap_byte mode % 2) 0) (low mode 0)
unfolding calm clock four high low
gap_sync Fm = by_bit _ (tt, (tt, tt)) (tt, (tt, tt))
gap_sync Mfm = by_bit _ (tt, (tt, tt)) (tt, (tt, tt))

sync_sync : (mode : Mode) → Lulls mode 0 (high mode 0 0) (low mode 0)
unfolding calm clock four high low
sync_sync Fm = by_bit _ (tt, (tt, tt)) (tt, (tt, tt))
sync_sync Mfm = by_bit _ (tt, (tt, tt)) (tt, (tt, tt))

sync_mark : (mode : Mode) (m : Mark) → Lulls mode 0 (get_or (string mode m) 0 0) (get_or (string mode m) 1 0)
unfolding calm clock four high low
sync_mark Fm Index = by_bit _ (tt, (tt, tt)) (tt, (tt, tt))
sync_mark Fm Identifier = by_bit _ (tt, (tt, tt)) (tt, (tt, tt))
sync_mark Fm Data = by_bit _ (tt, (tt, tt)) (tt, (tt, tt))
sync_mark Fm Control = by_bit _ (tt, (tt, tt)) (tt, (tt, tt))
sync_mark Fm Open = by_bit _ (tt, (tt, tt)) (tt, (tt, tt))
sync_mark Mfm Index = by_bit _ (tt, (tt, tt)) (tt, (tt, tt))
sync_mark Mfm Identifier = by_bit _ (tt, (tt, tt)) (tt, (tt, tt))
sync_mark Mfm Data = by_bit _ (tt, (tt, tt)) (tt, (tt, tt))
sync_mark Mfm Control = by_bit _ (tt, (tt, tt)) (tt, (tt, tt))
sync_mark Mfm Open = by_bit _ (tt, (tt, tt)) (tt, (tt, tt))

-- A gap byte with nothing behind it.
gap_end : (mode : Mode) (b : ℕ) → b < 2 → T (not (hits mode (high mode b (gap_byte mode)) (low mode (gap_byte mode))))
unfolding clock four high low
gap_end Fm = by_bit _ tt tt
gap_end Mfm = by_bit _ tt tt

-- The first two bytes of a list and what follows them.
front : (xs ys : List ℕ) → 2 ≤ length xs → xs ++ ys ≡ get_or xs 0 0 ∷ get_or xs 1 0 ∷ (drop 2 xs ++ ys)
front [] ys h = absurd (omega arith)
front (x ∷ []) ys h = absurd (omega arith)
front (x ∷ y ∷ xs) ys h = refl

module _ (mode : Mode) (c : ℕ → ℕ) (bit : (i : ℕ) → c i < 2) (n : ℕ) where
  -- ---- runs

  -- One byte of a run.
  quiet_plain : (p w x y z : ℕ) (r : List ℕ) → Stand c p (w ∷ x ∷ y ∷ z ∷ r) → Calm mode (w ∷ x ∷ y ∷ z ∷ []) → Quiet mode c n p (p + 16)
  quiet_plain p w x y z r s t = quiet_calm c bit mode n p (w ∷ x ∷ y ∷ z ∷ []) (s.0, (s.1.0, (s.1.1.0, (s.1.1.1.0, tt)))) t

  -- A run of bytes that lull each other, and the last of them what follows.
  quiet_run : (p k x y z : ℕ) (ss : List Symbol) (r : List ℕ) → Lulls mode x (high mode (x % 2) x) (low mode x) → Lulls mode x y z
      → image mode (x % 2) ss ≡ y ∷ z ∷ r → On mode c p (run k x ss) → Quiet mode c n p (p + 16 * k)
  unfolding run image
  quiet_run p zero x y z ss r f g e o = rw add-zero (quiet_none mode c n p)
  quiet_run p (suc zero) x y z ss r f g e o = quiet_plain p (high mode o.0 x) (low mode x) y z r (rw e at o.2) (g o.0 o.1)
  quiet_run p (suc (suc k)) x y z ss r f g e o =
      let far : p + 16 + 16 * suc k ≡ p + 16 * suc (suc k) = omega arith in
      rw (← far)
      (quiet_join mode c n p (p + 16) (p + 16 + 16 * suc k)
      (quiet_plain p (high mode o.0 x) (low mode x) (high mode (x % 2) x) (low mode x) (image mode (x % 2) (run k x ss)) o.2
      (f o.0 o.1))
      (quiet_run (p + 16) (suc k) x y z ss r f g e (x % 2, omega arith, rw (add_assoc p 8 8) at o.2.1.1)))

  -- 00 bytes before a mark,
  quiet_sync : (p k : ℕ) (m : Mark) (ss : List Symbol) → On mode c p (run k 0 (mark m ∷ ss)) → Quiet mode c n p (p + 16 * k)
  unfolding image
  quiet_sync p k m ss o =
      quiet_run p k 0 (get_or (string mode m) 0 0) (get_or (string mode m) 1 0) (mark m ∷ ss) _ (sync_sync mode) (sync_mark mode m)
      (front (string mode m) (image mode (mark_byte m % 2) ss) (string_two mode m)) o

  -- and a gap before 00 bytes.
  quiet_gap : (p k s : ℕ) (ss : List Symbol) → On mode c p (run k (gap_byte mode) (run (suc s) 0 ss)) → Quiet mode c n p (p + 16 * k)
  unfolding image run
  quiet_gap p k s ss o =
      quiet_run p k (gap_byte mode) (high mode (gap_byte mode % 2) 0) (low mode 0) (run (suc s) 0 ss) _ (gap_gap mode) (gap_sync mode) refl o

  -- ---- a gap, 00 bytes and a mark

  -- No mark begins before that one.
  pub gap_mark : (p k s : ℕ) (m : Mark) (ss : List Symbol) → 1 ≤ s → On mode c p (run k (gap_byte mode) (run s 0 (mark m ∷ ss)))
      → Quiet mode c n p (p + 16 * (k + s)) × On mode c (p + 16 * (k + s)) (mark m ∷ ss)
  gap_mark p k zero m ss h o = absurd (omega arith)
  gap_mark p k (suc s) m ss h o =
      let behind = on_run mode c p k (gap_byte mode) (run (suc s) 0 (mark m ∷ ss)) o in
      let far : p + 16 * k + 16 * suc s ≡ p + 16 * (k + suc s) = omega arith in (
        rw (← far)
            (quiet_join mode c n p (p + 16 * k) (p + 16 * k + 16 * suc s)
            (quiet_gap p k s (mark m ∷ ss) o)
            (quiet_sync (p + 16 * k) (suc s) m ss behind)),
        rw far at (on_run mode c (p + 16 * k) (suc s) 0 (mark m ∷ ss) behind),
      )

  -- None begins in the index mark, where a gap follows.
  pub quiet_index : (p k : ℕ) (ss : List Symbol) → 1 ≤ k → On mode c p (mark Index ∷ run k (gap_byte mode) ss)
      → Quiet mode c n p (p + mark_cells mode)
  unfolding image run calm clock four high low
  quiet_index p zero ss h o = absurd (omega arith)
  quiet_index p (suc k) ss h o = go mode o.2
    where
      go : (m : Mode) → Stand c p (string m Index ++ (high m 0 (gap_byte m) ∷ low m (gap_byte m) ∷ image m (gap_byte m % 2) (run k (gap_byte m) ss)))
          → Quiet m c n p (p + mark_cells m)
      go Fm s =
          let xs : List ℕ = 0xF7 ∷ 0x7A ∷ 0xFF ∷ 0xFF ∷ [] in
          quiet_calm c bit Fm n p xs (stand_append c p xs (image Fm 1 (run k 0xFF ss)) s).0 (tt, (tt, tt))
      go Mfm s =
          let xs : List ℕ = 0x52 ∷ 0x24 ∷ 0x52 ∷ 0x24 ∷ 0x52 ∷ 0x24 ∷ 0x55 ∷ 0x52 ∷ 0x92 ∷ 0x54 ∷ [] in
          quiet_calm c bit Mfm n p xs (stand_append c p xs (image Mfm 0 (run k 0x4E ss)) s).0 (tt, (tt, (tt, (tt, (tt, (tt, (tt, (tt, tt))))))))

  -- ---- the end of the track

  -- Of the last sixteen cells only the first leaves room for a mark.
  quiet_end : (p : ℕ) → n ≡ p + 16 → Clear mode c n p → Quiet mode c n p n
  quiet_end p e f w a b =
      ⊎_elim (λ (h : w ≤ p). let q : p ≡ w = omega arith in rw q at f) (λ (h : p < w). clear_beyond mode c n w (omega arith)) (le_or_lt w p)

  -- None begins in a gap that the image ends with.
  pub gap_last : (p k : ℕ) → n ≡ p + 16 * k → On mode c p (run k (gap_byte mode) []) → Quiet mode c n p n
  unfolding run image
  gap_last p zero e o w a b = absurd (omega arith)
  gap_last p (suc zero) e o w a b =
      quiet_end p e
      (clear_by mode c n p (high mode o.0 (gap_byte mode)) (low mode (gap_byte mode)) o.2.0 o.2.1.0 (gap_end mode o.0 o.1))
      w a b
  gap_last p (suc (suc k)) e o w a b =
      let x = gap_byte mode in
      quiet_join mode c n p (p + 16) n
      (quiet_plain p (high mode o.0 x) (low mode x) (high mode (x % 2) x) (low mode x) (image mode (x % 2) (run k x [])) o.2
      (gap_gap mode o.0 o.1))
      (gap_last (p + 16) (suc k) (omega arith) (x % 2, omega arith, rw (add_assoc p 8 8) at o.2.1.1))
      w a b
