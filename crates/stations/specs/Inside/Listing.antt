-- What comes of a listing of the register that a session reads.
use Rattle.std.specs.Prelude.{◌≡◌, ◌≤◌, Bool, IfErr, OnErr, OnOk, Result, Vec, vec_capacity, vec_len}
use Rattle.std.specs.declared.alloc.Global.{Global}
use Rattle.identity.specs.Numbers.{Byte}
use Rattle.centre_core.specs.State.{State}
use Rattle.listings.specs.declared.listing.Listing.{Listing}
use Rattle.desk.specs.Listed.{IsListed, IsUnlisted}
use Rattle.desk.specs.declared.outage.Outage.{Outage}
use Rattle.flusher.specs.Sessions.{SessionHasOnlyRead}
use Rattle.flusher.specs.declared.session.Session.{Session}
use Rattle.stations.specs.OfSession.{at_session, of_session}

-- The session was asked for a listing, and its text was to be added to `text`. It was added, or `text` is unchanged and an outage word says why.
-- The session only read. `more` is the text after the call. `may_order` says whether the session's station may give orders.
pub record AddsListing {J : Type 0} (base : State) (may_order : Bool) (listing : Listing) (old new : Session J) (text more : Vec Byte Global)
    (result : Result Unit Outage) : Type 0 where
  pub listed : OnOk result (IsListed (of_session J base may_order) (at_session old) listing text.items more.items (at_session new))
  pub unlisted : IfErr result (λ word.
      IsUnlisted (of_session J base may_order) (at_session old) listing (vec_len text) (vec_capacity text) word (at_session new))
  pub kept : OnErr result (more.items ≡ text.items)
  pub capacity : vec_capacity text ≤ vec_capacity more
  pub session : SessionHasOnlyRead old new
