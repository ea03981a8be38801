mod GatheredSites
