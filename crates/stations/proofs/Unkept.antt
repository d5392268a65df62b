-- A listing that was made, but whose text may not be kept.
use Rattle.std.proofs.Common.{◌≡◌, ◌<◌, false, List, length, ℕ, refl, ap, sym, ◌∙◌, inr, arith, true≢false}
use Rattle.std.proofs.lemmas.List.{length-append}
use Rattle.identity.specs.Numbers.{Byte}
use Rattle.listings.specs.Texts.{is_line, listing_text}
use Rattle.listings.specs.declared.listing.Listing.{Listing}
use Rattle.desk.specs.Listed.{IsListed, IsUnlisted}
use Rattle.desk.specs.Rules.{Rules}
use Rattle.desk.specs.declared.outage.Outage.TheVariants.{Memory}

module _ {A W : Type 0} (rules : Rules A W) (s : W) (l : Listing) (t : W) where
  -- it had no room
  pub unkept : (before after : List Byte) (size capacity : ℕ) → IsListed rules s l before after t → size ≡ length before → capacity < length after → is_line l ≡ false
      → IsUnlisted rules s l size capacity Memory t
  unkept before after size capacity listed counted lacking table =
      inr (
        refl,
        (
          listed.0,
          listed.1,
          (
            omega (arith, lacking, counted, ap length listed.2, length-append before (listing_text listed.0 l)),
            λ line. absurd (true≢false (sym line ∙ table)),
          ),
        ),
      )
