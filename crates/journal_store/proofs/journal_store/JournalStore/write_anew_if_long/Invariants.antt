use Rattle.journal_store.proofs.journal_store.JournalStore.write_anew_if_long.Given as goal

-- the moment at which the device was opened
abbrev pub ghost-opened : goal.ghost-opened
ghost-opened g a = g.M.Device.Device.moment a._device.now
