-- What passed between a text and its reader or writer.
use Rattle.std.proofs.Common.{◌≡◌, ℕ, zero, suc, ◌+◌, ◌≤◌, List, [], ◌∷◌, ◌++◌, length, Option, None, Some, Result, Ok, Err, IfErr, OnOk, refl, sym, ap, inl, inr, subst, ◌∙◌, append_assoc, arith, true}
use Rattle.std.proofs.lemmas.List.{append-nil}
use Rattle.std.specs.Prelude.{nat_le}
use Rattle.centre_core.specs.State.{State}
use Rattle.register_text.specs.declared.dumping.DumpFault.{DumpFault}
use Rattle.register_text.specs.declared.dumping.DumpFault.TheVariants as dump
use Rattle.register_text.specs.declared.load_fault.LoadFault.{LoadFault}
use Rattle.register_text.specs.declared.load_fault.LoadFault.TheVariants as load
use Rattle.register_text.specs.Dump.{IsLoadFault, cut_or_long, end_read, longest_dump_line, or_cut, text_from}
use Rattle.register_text.specs.Text.{TextLoading, text_finished}
use Rattle.register_text.specs.Inside.Going.{IsHeld, IsLineSoFar, IsOfLine, IsRefused}
use Rattle.register_text.specs.Passing.{HasNoBadLine, HavePassed, IsUnread, IsUnwritten, IsWhole, IsWritten, ReaderHasFailed, most_given}
use Rattle.register_text.proofs.Parts.{at_end}

module _ {S : Type 0} (Passed : S → List ℕ → S → Type 0) where
  -- ---- calls in a row

  pub none_passed : (a : S) → HavePassed Passed 0 a [] a
  unfolding HavePassed
  none_passed a = (refl, refl)

  pub one_more : (k : ℕ) (a b c : S) (text piece : List ℕ) → HavePassed Passed k a text b → Passed b piece c → HavePassed Passed (k + 1) a (text ++ piece) c
  unfolding HavePassed
  one_more k a b c text piece had more =
      let next : suc k ≡ k + 1 = omega arith in
      subst (λ (n : ℕ). HavePassed Passed n a (text ++ piece) c) next (b, text, piece, had, more, refl)

  pub joined : (k j : ℕ) (a b c : S) (text more : List ℕ) → HavePassed Passed k a text b → HavePassed Passed j b more c → (n : ℕ) × HavePassed Passed n a (text ++ more) c
  unfolding HavePassed
  joined k zero a b c text more had then_ = (
    k,
    subst (λ (s : S). HavePassed Passed k a (text ++ more) s) then_.1
        (subst (λ (l : List ℕ). HavePassed Passed k a l b) (sym (append-nil text) ∙ ap (λ (l : List ℕ). text ++ l) (sym then_.0)) had),
  )
  joined k (suc j) a b c text more had (last, before, piece, then_, gave, is) =
      let so = joined k j a b last text before had then_ in
      (suc so.0, (last, text ++ before, piece, so.1, gave, ap (λ (l : List ℕ). text ++ l) is ∙ sym (append_assoc text before piece)))

  -- ---- writing

  pub not_called : (a : S) (held holds more : List ℕ) → holds ≡ held ++ more → IsHeld Passed a held a holds more
  not_called a held holds more is = (0, [], none_passed a, is)

  pub all_taken : (a b : S) (held holds : List ℕ) → Passed a held b → holds ≡ [] → IsHeld Passed a held b holds []
  all_taken a b held holds took none = (1, held, one_more 0 a a b [] held (none_passed a) took, ap (λ (l : List ℕ). held ++ l) none)

  pub out_taken : (r : Result Unit DumpFault) (a b : S) (held holds : List ℕ) → OnOk r (Passed a held b) → OnOk r (holds ≡ []) → OnOk r (IsHeld Passed a held b holds [])
  out_taken (Ok u) a b held holds took none = all_taken a b held holds took none
  out_taken (Err e) a b held holds took none = tt

  pub held_on : (a b c : S) (held holds last more most : List ℕ) → IsHeld Passed a held b holds more → IsHeld Passed b holds c last most → IsHeld Passed a held c last (more ++ most)
  held_on a b c held holds last more most (k, taken, had, is) (j, also, then_, so) =
      let all = joined k j a b c taken also had then_ in (
        all.0,
        taken ++ also,
        all.1,
        append_assoc taken also last ∙ ap (λ (l : List ℕ). taken ++ l) so ∙ sym (append_assoc taken holds most) ∙ ap (λ (l : List ℕ). l ++ most) is ∙ append_assoc held more most,
      )

  -- all of the text was written, and then passed on
  pub written_by : (Flushed : S → S → Type 0) (a b c d : S) (held holds more text : List ℕ) → IsHeld Passed a held b holds more → Passed b holds c →
      Flushed c d → held ++ more ≡ text → IsWritten Passed Flushed text a d
  written_by Flushed a b c d held holds more text (k, taken, had, is) took flushed e =
      (k + 1, c, subst (λ (l : List ℕ). HavePassed Passed (k + 1) a l c) (is ∙ e) (one_more k a b c taken holds had took), flushed)

  module _ (Failed : S → S → Type 0) where
    -- nothing was written
    pub nothing_written : (a : S) (text : List ℕ) → IsUnwritten Passed Failed text a a dump.Memory
    nothing_written a text = (0, [], text, none_passed a, refl)

    -- all of it was written, but not passed on
    pub not_flushed : (a b c d : S) (held holds more text : List ℕ) → IsHeld Passed a held b holds more → Passed b holds c → Failed c d →
        held ++ more ≡ text → IsUnwritten Passed Failed text a d dump.Write
    not_flushed a b c d held holds more text (k, taken, had, is) took failed e =
        (k + 1, c, text, [], subst (λ (l : List ℕ). HavePassed Passed (k + 1) a l c) (is ∙ e) (one_more k a b c taken holds had took), failed, sym (append-nil text))

    -- memory ran out, or the writer failed, and this is left to be written
    pub unwritten_after : (fault : DumpFault) (a b c : S) (held holds more rest text : List ℕ) → IsHeld Passed a held b holds more → text ≡ (held ++ more) ++ rest
        → IsRefused Failed b c fault → IsUnwritten Passed Failed text a c fault
    unwritten_after dump.Memory a b c held holds more rest text (k, taken, had, is) e refused = absurd (unlike refused.0)
      where
        unlike : ◌≡◌ {A = DumpFault} dump.Memory dump.Write → ⊥
        unlike same = cc
    unwritten_after dump.Write a b c held holds more rest text (k, taken, had, is) e refused =
        (k, b, taken, holds ++ rest, had, refused.1, e ∙ ap (λ (l : List ℕ). l ++ rest) (sym is) ∙ append_assoc taken holds rest)

    pub out_of_memory : (a b : S) (held holds more rest text : List ℕ) → IsHeld Passed a held b holds more → text ≡ (held ++ more) ++ rest → IsUnwritten Passed Failed text a b dump.Memory
    out_of_memory a b held holds more rest text (k, taken, had, is) e =
        (k, taken, holds ++ rest, had, e ∙ ap (λ (l : List ℕ). l ++ rest) (sym is) ∙ append_assoc taken holds rest)

-- ---- reading

-- no line is at fault where the last of them is kept
end_good : (n : ℕ) (t : TextLoading) (line : List ℕ) → length line ≤ longest_dump_line → HasNoBadLine (end_read n t line)
end_good n t [] short = of_end (text_finished t)
  where
    of_end : (o : Option State) → HasNoBadLine (or_cut n o)
    of_end None = tt
    of_end (Some s) = tt
end_good n t (b ∷ part) short =
    let yes : nat_le (length (b ∷ part)) longest_dump_line ≡ true = grind (arith, short) in
    subst HasNoBadLine (sym (ap (cut_or_long n t) yes)) tt

one_fault : (a b : LoadFault) → ◌≡◌ {A = Result State LoadFault} (Err a) (Err b) → b ≡ a
one_fault a b same = cc

none_made : (s : State) (fault : LoadFault) → ◌≡◌ {A = Result State LoadFault} (Ok s) (Err fault) → ⊥
none_made s fault same = cc

-- the only fault at the end is that the text is cut
end_kind : (n : ℕ) (t : TextLoading) (line : List ℕ) (fault : LoadFault) → length line ≤ longest_dump_line → end_read n t line ≡ Err fault → fault ≡ load.Cut n
end_kind n t [] fault short e = of_end (text_finished t) e
  where
    of_end : (o : Option State) → or_cut n o ≡ Err fault → fault ≡ load.Cut n
    of_end None e = one_fault (load.Cut n) fault e
    of_end (Some s) e = absurd (none_made s fault e)
end_kind n t (b ∷ part) fault short e =
    let yes : nat_le (length (b ∷ part)) longest_dump_line ≡ true = grind (arith, short) in
    one_fault (load.Cut n) fault (sym (ap (cut_or_long n t) yes) ∙ e)

pub kept_good : (n : ℕ) (t : TextLoading) (line : List ℕ) → IsLineSoFar line → HasNoBadLine (text_from n t (line ++ []))
kept_good n t line kept = subst HasNoBadLine (sym (at_end n t line kept)) (end_good n t line kept.1)

module _ {S : Type 0} (Gave : S → List ℕ → S → Type 0) (Ended Failed : S → S → Type 0) where
  -- what two texts make alike
  pub unread_alike : (made same : List ℕ → Result State LoadFault) → ((text : List ℕ) → made text ≡ same text) → (a b : S) (fault : LoadFault)
      → IsUnread Gave Ended Failed made a b fault → IsUnread Gave Ended Failed same a b fault
  unread_alike made same alike a b load.Memory (k, last, text, had, once, good) = (k, last, text, had, once, subst HasNoBadLine (alike text) good)
  unread_alike made same alike a b load.Read (text, had, good) = (text, had, subst HasNoBadLine (alike text) good)
  unread_alike made same alike a b (load.Line n cause) (k, text, had, is) = (k, text, had, λ left. sym (alike (text ++ left)) ∙ is left)
  unread_alike made same alike a b (load.Cut n) (text, whole, is) = (text, whole, sym (alike text) ∙ is)

  -- nothing was read
  pub never_read : (made : List ℕ → Result State LoadFault) (a : S) → HasNoBadLine (made []) → IsUnread Gave Ended Failed made a a load.Memory
  never_read made a good = (0, a, [], none_passed Gave a, inl refl, good)

  -- a fault of the piece that came last
  pub piece_unread : (made then_ : List ℕ → Result State LoadFault) (k : ℕ) (a b c : S) (text piece : List ℕ) (fault : LoadFault)
      → HavePassed Gave k a text b → Gave b piece c → length piece ≤ most_given → HasNoBadLine (then_ []) → ((left : List ℕ) → made (text ++ left) ≡ then_ left)
      → IsOfLine fault → ((left : List ℕ) → IsLoadFault (then_ (piece ++ left)) fault) → IsUnread Gave Ended Failed made a c fault
  piece_unread made then_ k a b c text piece load.Memory had gave short good goes kind said =
      (k, b, text, had, inr (piece, gave, short), subst HasNoBadLine (sym (goes []) ∙ ap made (append-nil text)) good)
  piece_unread made then_ k a b c text piece load.Read had gave short good goes kind said = absurd kind
  piece_unread made then_ k a b c text piece (load.Line n cause) had gave short good goes kind said =
      (k + 1, text ++ piece, one_more Gave k a b c text piece had gave, λ left. ap made (append_assoc text piece left) ∙ goes (piece ++ left) ∙ said left)
  piece_unread made then_ k a b c text piece (load.Cut n) had gave short good goes kind said = absurd kind

  -- the reader failed, or gave no end
  pub reader_failed : (made then_ : List ℕ → Result State LoadFault) (a c : S) (text : List ℕ)
      → ReaderHasFailed Gave Failed a c text → HasNoBadLine (then_ []) → ((left : List ℕ) → made (text ++ left) ≡ then_ left) → IsUnread Gave Ended Failed made a c load.Read
  reader_failed made then_ a c text had good goes = (text, had, subst HasNoBadLine (sym (goes []) ∙ ap made (append-nil text)) good)

  -- a fault at the end of the text
  pub end_unread : (made : List ℕ → Result State LoadFault) (a c : S) (n : ℕ) (t : TextLoading) (line text : List ℕ) (fault : LoadFault)
      → IsWhole Gave Ended a c text → made text ≡ text_from n t (line ++ []) → IsLineSoFar line → text_from n t (line ++ []) ≡ Err fault → IsUnread Gave Ended Failed made a c fault
  end_unread made a c n t line text fault whole same kept is =
      let cut = end_kind n t line fault kept.1 (sym (at_end n t line kept) ∙ is) in
      subst (λ (f : LoadFault). IsUnread Gave Ended Failed made a c f) (sym cut) (text, whole, same ∙ is ∙ ap (λ (f : LoadFault). Err f) cut)

  -- what comes at the end of the text
  pub ended_unread : (r : Result State LoadFault) (made : List ℕ → Result State LoadFault) (a c : S) (n : ℕ) (t : TextLoading) (line text : List ℕ)
      → IsWhole Gave Ended a c text → made text ≡ text_from n t (line ++ []) → IsLineSoFar line → r ≡ text_from n t (line ++ []) → IfErr r (IsUnread Gave Ended Failed made a c)
  ended_unread (Ok s) made a c n t line text whole same kept is = tt
  ended_unread (Err fault) made a c n t line text whole same kept is = end_unread made a c n t line text fault whole same kept (sym is)
