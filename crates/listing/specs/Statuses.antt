-- The exit statuses of the program.
use Rattle.std.specs.Prelude.{ℕ}
use Rattle.disassembly.specs.declared.refusal.Refusal.TheVariants.{Memory}
use Rattle.listing.specs.declared.no_listing.NoListing.{NoListing}
use Rattle.listing.specs.declared.no_listing.NoListing.TheVariants.{Failed, Refused, TooLong}

-- 2 where the file has no listing, 5 where a device or memory fails
abbrev pub status_without_listing : NoListing → ℕ
status_without_listing (Failed fault) = 5
status_without_listing (Refused Memory) = 5
status_without_listing (Refused why) = 2
status_without_listing TooLong = 2
